pub mod Survey
pub mod Found
pub mod Steps
pub mod Whole
