-- What holds in every state that a legal list reaches.
pub mod Counts
pub mod Once
pub mod Kept
pub mod Parts
pub mod Fits
pub mod Rested
pub mod Always
pub mod Reached
pub mod States
pub mod Unused
pub mod Live
pub mod Tried
pub mod Listed
pub mod Noted
