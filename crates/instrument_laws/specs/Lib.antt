pub mod Machine
pub mod Order10
