pub mod FileBytes
pub mod Writing
pub mod Accepted
pub mod Positions
