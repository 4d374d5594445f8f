pub mod Codes
pub mod BadStretches
pub mod Histograms
