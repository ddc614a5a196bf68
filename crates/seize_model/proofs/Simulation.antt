-- The proofs that the two models agree.
--
-- Both directions are one proof. Where one call is under way, its next event is forced, but for the numbers that a reclaimer puts
-- (`Determinism`). So a call's work is shown once, for anything that is carried along forced events and hands (`Paths`): from `Work` to
-- `Queues`. What is carried is a run so far, which picks fresh numbers (`Runs`), or what is left of a given list of events, which has
-- them (`Lists`). What numbers stand for is a parameter (`Coupling`): what values hold, or values with their reclaimers (`Views`).
pub mod Events
pub mod Determinism
pub mod Coupling
pub mod Views
pub mod Paths
pub mod Attempts
pub mod Releases
pub mod Detachment
pub mod Names
pub mod Work
pub mod Walks
pub mod Queues
pub mod Plays
pub mod Runs
pub mod Lists
pub mod Beginnings
pub mod Jobs
pub mod Gathers
pub mod Guards
pub mod Links
pub mod Exchanges
pub mod Numbers
pub mod Calls
pub mod Pairs
pub mod Renaming
pub mod Descendants
pub mod Namings
pub mod Openings
pub mod Reopenings
