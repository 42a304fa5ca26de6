pub mod Fields
pub mod Arithmetic
