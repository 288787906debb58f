-- The logger's blocks: the check, the bytes and the two calls; then what follows from them.
pub mod Check
pub mod Layout
pub mod Read
pub mod Calls
pub mod Formed
