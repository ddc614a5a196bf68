pub mod Gone
pub mod Holding
pub mod Calls
pub mod Events
pub mod Begins
pub mod Reclaiming
