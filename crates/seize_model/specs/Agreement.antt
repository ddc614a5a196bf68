-- The two models agree: each call on waiting sets is a run of events of the machine.
pub mod Shows
pub mod Events
pub mod Play
pub mod Statement
pub mod Links
pub mod Reopening
pub mod Driver
pub mod Runs
