pub mod Starts
pub mod Opening
pub mod Handles
