pub mod Begins
pub mod Plays
pub mod Whole
pub mod Offered
