-- What the proofs here share, and the table of answers.
pub mod Calls
pub mod Steps
pub mod Unique
