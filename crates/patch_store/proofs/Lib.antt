pub mod Steps
pub mod Tails
pub mod Patches
pub mod Mixes
pub mod Torn
