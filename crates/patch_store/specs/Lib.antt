pub mod Patch
pub mod Torn
