pub mod Currents
pub mod Entries
pub mod Handles
pub mod Seeks
