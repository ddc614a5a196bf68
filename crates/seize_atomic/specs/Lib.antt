pub mod Attempts
pub mod Cells
pub mod Alters
