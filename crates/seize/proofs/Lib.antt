mod Lawful
pub mod Contents
pub mod Retired
pub mod Facts
mod Lone
mod Fresh
mod Still
mod Grown
mod Linked
mod Reclaimed
mod Outlined
mod Taking
mod Gathered
mod Giving
mod Running
pub use Rattle.seize_alone.proofs.Outlines
