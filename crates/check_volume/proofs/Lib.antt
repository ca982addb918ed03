pub mod Walks
pub mod Decides
