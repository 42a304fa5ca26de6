pub mod Sites
pub mod Cells
