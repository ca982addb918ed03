pub mod Finds
pub mod Resolves
pub mod Holding
