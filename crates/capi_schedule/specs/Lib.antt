pub mod FlatSchedule
pub mod GivenBack
