pub mod Shown
pub mod Held
