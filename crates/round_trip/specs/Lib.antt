pub mod RecordBytes
pub mod Right
pub mod ReadAfterWrite
pub mod WriteAfterRead
pub mod RoundTrips
