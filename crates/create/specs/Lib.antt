pub mod Creating
pub mod Post
pub mod OnTree
