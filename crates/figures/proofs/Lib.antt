pub mod Exits
pub mod Folds
pub mod Area
pub mod FinerTable
pub mod Gathering
