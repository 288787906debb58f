-- How large the entries of the tables are.
pub mod Entries
-- ILB as the code keeps it.
pub mod Rows
