pub mod Promises
pub mod Cleared
