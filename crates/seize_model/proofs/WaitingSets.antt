-- The laws of waiting sets.
pub mod FurtherValues
pub mod Drain
pub mod Beside
pub mod Taken
pub mod Refusals
pub mod Invariants
pub mod Tidy
pub mod LastEnd
pub mod Giving
pub mod Lists
pub mod Orders
pub mod GoneBatches
pub mod ActiveSlots
pub mod Bound
pub mod Unused
