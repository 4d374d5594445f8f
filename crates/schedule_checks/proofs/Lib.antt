pub mod Faults
pub mod Passed
pub mod Choice
pub mod SoundSchedule
pub mod SoundChain
pub mod ChosenChain
pub mod Positions
pub mod SameSchedule
