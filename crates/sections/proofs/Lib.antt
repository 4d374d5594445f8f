pub mod Cutting
pub mod Exits
pub mod CutLaws
pub mod EveryCut
pub mod Alone
