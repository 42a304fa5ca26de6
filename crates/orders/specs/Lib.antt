pub mod Positions
pub mod Orders
