pub mod Deleting
pub mod Post
