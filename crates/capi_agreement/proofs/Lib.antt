pub mod ChosenChain
pub mod TablesAndWalks
