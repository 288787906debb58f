-- What the parts of a tick give back.
pub mod Run
