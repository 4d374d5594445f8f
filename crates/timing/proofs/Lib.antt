pub mod Whole
pub mod Entries
pub mod Exits
