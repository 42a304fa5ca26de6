pub mod Decoding
pub mod Accepted
pub mod Unique
pub mod Readings
pub mod ReadBack
pub mod WrittenBack
pub mod OneForm
pub mod Bounded
