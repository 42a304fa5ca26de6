pub mod Conditions
pub mod Plans
