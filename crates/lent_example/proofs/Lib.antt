pub mod ChainA
