pub mod Slots
pub mod Heads
pub mod Shown
