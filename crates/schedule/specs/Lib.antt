pub mod Schedules
pub mod Arrays
pub mod Padding
pub mod Numbers
pub mod Rule
pub mod ChainTasks
