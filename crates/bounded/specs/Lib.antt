pub mod Bounded
pub mod Cleared
