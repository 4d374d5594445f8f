pub mod Lists
pub mod Partitions
pub mod Selections
pub mod CanonicalAnchors
