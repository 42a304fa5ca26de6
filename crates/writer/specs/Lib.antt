pub mod Numbers
pub mod Descriptors
