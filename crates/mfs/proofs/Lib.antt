pub mod Outcomes
pub mod Examples
