pub mod Steps
pub mod Counting
pub mod Invariants
pub mod Lists
pub mod Laws
pub mod Facts
pub mod Appended
pub mod Words
