-- Counts over lists.
pub mod Sums
pub mod Occurrences
