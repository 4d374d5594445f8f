pub mod Answers
pub mod BadStretches
