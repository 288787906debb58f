-- The calls on a chunk of samples as bytes, in one step and in two.
pub mod Chunks
pub mod Signals
