pub mod Adding
pub mod Tiles
pub mod Stored
pub mod Runs
