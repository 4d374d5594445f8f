pub mod Stores
pub mod Room
pub mod Lengths
