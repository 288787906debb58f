-- The walk of a recording, and what follows of it.
pub mod Walk
