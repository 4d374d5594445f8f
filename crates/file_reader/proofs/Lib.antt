pub mod Exits
pub mod Fields
pub mod Going
pub mod Records
pub mod Offsets
