pub mod Reach
pub mod Passing
