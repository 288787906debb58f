-- Where a product is not stopped, and what of a sub-band is its own.
pub mod Unstopped
pub mod Own
