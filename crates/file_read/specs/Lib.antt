pub mod Read
pub mod Post
