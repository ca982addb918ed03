pub mod Parts
pub mod Walks
