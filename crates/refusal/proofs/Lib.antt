-- What this crate proves of its functions together.
pub mod Unique
