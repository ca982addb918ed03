pub mod Answers
pub mod Means
