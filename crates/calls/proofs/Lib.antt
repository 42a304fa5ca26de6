pub mod Own
pub mod Simulation
pub mod Lists
pub mod Alikes
pub mod Going
pub mod Finished
pub mod Outcomes
pub mod Steps
