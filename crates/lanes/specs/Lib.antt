-- The definitions that the contracts of `lanes` cite beside those of G.722.
pub mod Sum
