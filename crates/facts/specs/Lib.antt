-- What follows from the definitions of `g722`, and several crates cite.
pub mod Lengths
pub mod Reach
pub mod Sent
pub mod Upper
pub mod Told
pub mod Steps
pub mod Range
pub mod Overload
pub mod CodedRuns
pub mod Good
pub mod Fits
pub mod Signals
pub mod Chain
pub mod Blocks
