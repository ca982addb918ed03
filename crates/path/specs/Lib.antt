pub mod Path
pub mod Post
