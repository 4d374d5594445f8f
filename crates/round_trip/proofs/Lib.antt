pub mod Trips
pub mod RoundTrips
