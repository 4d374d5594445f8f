pub mod WellFigures
pub mod Lines
