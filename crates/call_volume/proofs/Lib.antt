pub mod Answers
pub mod Formatted
pub mod Checked
