pub mod Grows
pub mod Owners
