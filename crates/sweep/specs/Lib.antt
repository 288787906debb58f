-- A band over a block, and its turns.
pub mod Block
pub mod Octet
pub mod Turn
