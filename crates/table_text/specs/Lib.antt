pub mod TableText
pub mod Widths
