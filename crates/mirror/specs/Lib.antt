-- What the mirror filters answer of a block, how they go over rows of numbers, and that the two agree.
pub mod Rows
pub mod Block
pub mod Fitting
