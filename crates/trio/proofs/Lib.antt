pub mod Begins
pub mod Fills
pub mod Products
pub mod Laws
pub mod Named
