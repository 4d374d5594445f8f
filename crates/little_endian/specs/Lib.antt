pub mod LittleEndian
pub mod Stores
