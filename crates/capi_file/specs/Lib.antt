pub mod Calls
pub mod RoundTrips
