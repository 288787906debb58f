-- Samples as bytes, and numbers from 0 up as bytes.
pub mod Bytes
pub mod Numbers
