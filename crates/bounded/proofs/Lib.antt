pub mod ArrayLaws
pub mod Derived
pub mod SameLaws
pub mod Zeros
