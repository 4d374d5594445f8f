pub mod Bookings
pub mod Stretches
pub mod WithoutGap
