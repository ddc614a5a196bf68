pub mod Altering
pub mod Facts
pub mod Trying
