-- The definitions that the contracts of `band` cite beside those of G.722.
pub mod Loop
