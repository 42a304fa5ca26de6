pub mod Meanings
pub mod Elements
