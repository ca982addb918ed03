pub mod Aims
pub mod Limits
pub mod Renewed
pub mod Stores
pub mod Targets
