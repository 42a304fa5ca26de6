pub mod Layouts
pub mod Moves
pub mod Fits
