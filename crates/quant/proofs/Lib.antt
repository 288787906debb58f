-- Laws that several of this crate's proofs cite.
pub mod Laws
pub mod Counting
pub mod Unique
