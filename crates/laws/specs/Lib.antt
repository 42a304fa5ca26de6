pub mod Products
pub mod Stores
