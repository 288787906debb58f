-- What the proofs here share, and the table of answers.
pub mod Laws
pub mod Values
pub mod Round
pub mod Bands
pub mod Reset
pub mod Unique
