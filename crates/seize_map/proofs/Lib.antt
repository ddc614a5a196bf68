pub mod Changed
pub mod Facts
pub mod Lookups
