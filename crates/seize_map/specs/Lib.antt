pub mod Buckets
pub mod Maps
pub mod Sessions
