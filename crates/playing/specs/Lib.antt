-- A block played, what follows of that, and blocks played in a row.
pub mod Answer
pub mod Play
pub mod Run
pub mod Takes
