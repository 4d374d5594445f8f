pub mod LargestLaws
pub mod LeastLaws
