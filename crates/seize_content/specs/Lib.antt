pub mod Stages
pub mod Goods
pub mod Contents
pub mod Cells
pub mod Steady
pub mod Loans
pub mod Readers
