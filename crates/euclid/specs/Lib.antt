pub mod Divisor
pub mod Combination
