pub mod Exits
pub mod Parts
pub mod Refusals
pub mod Survey
