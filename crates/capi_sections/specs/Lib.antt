pub mod Calls
pub mod EveryCut
