pub mod Agreement
pub mod Waiting
pub use Rattle.seize_machine.specs.Machine
pub use Rattle.seize_table.specs.Refusals
