pub mod Filling
pub mod Front
pub mod Found
pub mod CheckLaws
pub mod Steps
