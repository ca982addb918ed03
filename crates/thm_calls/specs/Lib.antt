pub mod Handles
pub mod Named
