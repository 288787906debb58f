-- Numbers in decimal, texts as bytes, and the lines made of them.
pub mod Decimal
pub mod Text
pub mod Lines
pub mod Cases
