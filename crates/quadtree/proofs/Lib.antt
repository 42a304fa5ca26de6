pub mod Powers
pub mod Indices
pub mod Starts
pub mod Places
