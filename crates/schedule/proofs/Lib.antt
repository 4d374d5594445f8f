pub mod PlaceLaws
pub mod ArrayLaws
pub mod Zeros
