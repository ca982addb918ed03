pub mod Handles
pub mod Post
pub mod OnTree
