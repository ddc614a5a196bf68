-- Waiting sets: what a collector does when its calls are made one after another. A retired batch waits for the slots that were
-- active when it was retired, and is gone when the last of them parts.
pub mod State
pub mod Attempt
pub mod Further
pub mod Calls
pub mod Lists
pub mod Reached
pub mod Laws
pub mod Runs
