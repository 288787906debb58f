-- What is proved of the recursive part beside the laws of its stops.
pub mod First
