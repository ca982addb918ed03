pub mod Walk
pub mod Cursor
pub mod Finds
