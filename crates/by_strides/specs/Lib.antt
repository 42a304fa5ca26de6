pub mod Layouts
pub mod Fits
