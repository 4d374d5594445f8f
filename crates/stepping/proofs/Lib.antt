pub mod Advancing
pub mod Turns
pub mod Ends
pub mod Step
pub mod Reciprocal
