pub mod Calls
pub mod EveryBound
pub mod Written
