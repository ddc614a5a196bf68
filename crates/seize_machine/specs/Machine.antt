-- The event machine: its state, its events, what each does, and the laws over lists of them.
pub mod State
pub mod Event
pub mod Next
pub mod History
pub mod Laws
pub mod Frames
pub mod Kept
pub mod Rows
pub mod Schedules
pub mod Counterexamples
pub mod Code
