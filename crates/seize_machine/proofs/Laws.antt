-- The laws of the machine, and the machines that break them.
pub mod AtMostOnce
pub mod After
pub mod Gone
pub mod Whereabouts
pub mod Holders
pub mod LaterHolders
pub mod UnderGuard
pub mod Quiet
pub mod Protection
pub mod Tries
pub mod Refuting
pub mod Counterexamples
