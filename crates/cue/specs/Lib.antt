-- The laws of the cue channel, and what it promises.
pub mod Bits
pub mod Fills
pub mod Round
