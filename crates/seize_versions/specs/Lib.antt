pub mod Numbers
pub mod Versions
pub mod Reached
pub mod Readers
