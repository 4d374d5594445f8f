pub mod Jobs
pub mod Links
