-- What follows from the meaning of playing.
pub mod Begins
pub mod PlayCalls
pub mod Run
pub mod Takes
pub mod Enough
pub mod Said
