-- What the proofs of `band` share.
pub mod Laws
pub mod Unique
