-- What the proofs here share, and what this crate proves of its functions together.
pub mod Words
pub mod Made
pub mod Unique
