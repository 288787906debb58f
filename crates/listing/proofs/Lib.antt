-- What follows from the lines of a listing.
pub mod Turns
pub mod Joined
pub mod Sums
