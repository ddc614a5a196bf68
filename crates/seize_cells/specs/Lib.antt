pub mod Locals
pub mod Latches
pub mod Locks
