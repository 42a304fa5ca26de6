pub mod Cells
pub mod Owners
