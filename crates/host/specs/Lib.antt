-- The calls for a host that keeps the state as bytes.
pub mod Answer
pub mod Calls
pub mod Cases
