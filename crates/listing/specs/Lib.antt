-- What the listing says of a block, the whole listing, its turns, and the sums of it.
pub mod Listed
pub mod Listing
