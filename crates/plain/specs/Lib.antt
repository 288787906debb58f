-- What the blocks of both ends give back.
pub mod Step
