pub mod FileReads
pub mod Listings
pub mod Calls
pub mod Stored
pub mod Changing
pub mod ReadsBack
pub mod Patching
