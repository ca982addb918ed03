pub mod Writing
pub mod Written
pub mod OnTree
