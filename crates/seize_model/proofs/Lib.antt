pub mod Simulation
pub mod Cases
pub mod Counts
pub mod WaitingSets
