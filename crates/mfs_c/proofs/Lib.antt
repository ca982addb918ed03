pub mod Told
pub mod Outcomes
pub mod Refused
pub mod Handles
