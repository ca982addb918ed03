pub mod Bytes
pub mod Marks
