pub mod Small
pub mod Gives
