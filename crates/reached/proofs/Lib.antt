pub mod Steps
pub mod OnTree
