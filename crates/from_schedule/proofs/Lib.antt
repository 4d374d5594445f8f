pub mod Choices
pub mod EveryCut
pub mod ChainByChain
pub mod Pairs
