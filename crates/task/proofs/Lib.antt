pub mod Closed
pub mod LinkLaws
