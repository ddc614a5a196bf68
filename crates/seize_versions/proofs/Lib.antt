pub mod Facts
pub mod Next
pub mod Reached
pub mod Readers
