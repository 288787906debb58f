-- A record as the bytes that a host keeps.
pub mod Layout
pub mod Reset
pub mod Places
