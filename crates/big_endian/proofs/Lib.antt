-- What the proofs here share, and the table of answers.
pub mod Turns
pub mod Unique
