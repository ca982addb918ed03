pub mod Answers
pub mod Tree
pub mod Render
pub mod Geometry
pub mod Volume
pub mod Calls
pub mod Steps
