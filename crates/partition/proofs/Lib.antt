pub mod Bounds
pub mod CutFree
pub mod FewAnchors
pub mod WithoutGap
