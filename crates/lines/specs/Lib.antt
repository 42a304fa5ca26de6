pub mod Lines
pub mod Requests
