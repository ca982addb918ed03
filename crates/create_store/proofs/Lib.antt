pub mod Steps
pub mod Spots
pub mod Stages
pub mod Gaps
pub mod Spotted
pub mod Enters
pub mod Inserted
