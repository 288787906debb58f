-- What the proofs of `lanes` share, and the table of answers.
pub mod Sides
pub mod Adding
pub mod Unique
