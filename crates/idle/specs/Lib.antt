-- Where stops are idle, and what the rows and numbers of a band's loop stand for.
pub mod Plain
pub mod Recursive
pub mod Factors
pub mod Rows
