pub mod LoadFile
pub mod Answers
pub mod ReadBack
pub mod EveryWord
