pub mod Steps
pub mod Rooms
