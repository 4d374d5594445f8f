pub mod Reciprocal
pub mod OnePlace
pub mod Went
pub mod Standing
pub mod Ways
pub mod Onward
pub mod Moves
pub mod Survey
