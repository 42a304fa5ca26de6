pub mod Kept
pub mod Strided
