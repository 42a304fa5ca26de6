pub mod Ordinary
