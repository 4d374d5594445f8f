pub mod Small
pub mod Numbers
