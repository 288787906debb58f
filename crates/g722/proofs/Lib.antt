-- What is proved of the definitions beside the cases that tell them, and the table of answers.
pub mod Steady
pub mod Tells
pub mod Unique
