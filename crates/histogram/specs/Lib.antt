pub mod Histogram
pub mod Differences
pub mod Entries
