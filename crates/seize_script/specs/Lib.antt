pub mod Ranges
pub mod Statuses
pub mod Values
pub mod Weights
