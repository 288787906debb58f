-- The two steps of decoding for a host that keeps the state as bytes.
pub mod Calls
pub mod Cases
