-- What a port gives and is sent.
pub mod Step
