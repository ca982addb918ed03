pub mod Resolve
pub mod Post
pub mod Hold
