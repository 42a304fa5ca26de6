pub mod Numbers
pub mod Writes
pub mod Forms
