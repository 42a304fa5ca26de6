pub mod Numbers
pub mod Reading
pub mod Spellings
pub mod Splits
