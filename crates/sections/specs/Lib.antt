pub mod Sections
pub mod Uniform
pub mod Parts
pub mod OneCut
pub mod TwoSections
pub mod Standing
pub mod PartOfList
