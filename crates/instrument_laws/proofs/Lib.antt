pub mod Calls
pub mod EveryList
pub mod Order10
