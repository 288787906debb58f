-- The outputs and the weights by the word itself.
pub mod Signed
