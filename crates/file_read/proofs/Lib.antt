pub mod Chains
pub mod Fetches
pub mod Follows
pub mod Frames
pub mod Pours
