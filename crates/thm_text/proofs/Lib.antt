pub mod Decoded
pub mod Encoded
pub mod Examples
pub mod Steps
pub mod Small
