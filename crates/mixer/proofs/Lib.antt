-- What the proofs here share, and the table of answers.
pub mod Laws
pub mod Tells
pub mod Unique
