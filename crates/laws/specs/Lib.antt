-- What several crates' definitions and proofs are built from.
pub mod Outcome
pub mod One
pub mod Both
pub mod Every
pub mod Rising
pub mod Order
pub mod Products
pub mod Clamp
pub mod Size
pub mod Back
pub mod Turns
pub mod Machine
pub mod Filled
pub mod Zipped
pub mod Parts
pub mod Blocks
