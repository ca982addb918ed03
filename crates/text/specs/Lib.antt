pub mod Awaited
pub mod Text
