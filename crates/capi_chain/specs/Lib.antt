pub mod FlatChain
pub mod Front
