pub mod Paged
pub mod Whole
pub mod Saying
