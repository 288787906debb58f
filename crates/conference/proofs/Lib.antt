-- What follows from the meaning of the conference desk.
pub mod Cases
pub mod Rows
pub mod Total
pub mod Own
pub mod Mixing
pub mod Codec
pub mod Good
pub mod Telling
pub mod Unique
