pub mod Longest
pub mod Walking
pub mod Exits
