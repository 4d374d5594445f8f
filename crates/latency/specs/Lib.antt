pub mod LongestPlace
pub mod Latency
pub mod GreatestDelay
pub mod AnyCut
pub mod AnyRange
pub mod Walk
pub mod Room
pub mod Ties
