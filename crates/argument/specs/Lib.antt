-- A number in decimal digits, as an argument gives it.
pub mod Number
