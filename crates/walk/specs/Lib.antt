pub mod Walks
pub mod Rooms
pub mod Steps
