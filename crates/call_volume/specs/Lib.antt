pub mod Format
pub mod Checking
