pub mod Writing
pub mod Exits
pub mod Counting
pub mod EveryHyperperiod
pub mod Reach
pub mod Differences
pub mod Entries
