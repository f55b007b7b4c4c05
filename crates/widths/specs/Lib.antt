-- How far apart low and high are at most.
pub mod Narrow
