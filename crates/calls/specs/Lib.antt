pub mod Tables
pub mod Views
pub mod Moments
pub mod Promises
