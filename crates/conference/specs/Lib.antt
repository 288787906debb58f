-- The meaning of the conference desk, and what follows from it.
pub mod Sums
pub mod Ports
pub mod Answers
pub mod Tick
pub mod Own
