pub mod Report
pub mod Lent
pub mod Ties
