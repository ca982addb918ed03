pub mod Patching
pub mod OnTree
