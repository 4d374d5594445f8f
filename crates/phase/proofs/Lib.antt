pub mod Moving
pub mod Others
pub mod Tries
pub mod AllPhases
pub mod Entry
