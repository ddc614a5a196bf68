pub mod Nests
pub mod Places
pub mod Reached
pub mod Shown
pub mod Versions
pub mod Weights
