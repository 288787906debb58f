-- What the proofs here share, and the table of answers.
pub mod Sums
pub mod Loops
pub mod Calls
pub mod Windows
pub mod Splitting
pub mod Joining
pub mod Unique
