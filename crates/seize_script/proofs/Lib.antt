pub mod Prefixes
pub mod Ranging
mod Owners
