pub mod Positions
pub mod Ordered
