pub mod Aims
pub mod Stores
pub mod Targets
pub mod Torn
