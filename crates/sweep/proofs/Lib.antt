-- What the proofs of `sweep` share, and the table of answers.
pub mod Loop
pub mod Unique
