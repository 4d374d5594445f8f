pub mod Largest
pub mod Least
pub mod Entries
