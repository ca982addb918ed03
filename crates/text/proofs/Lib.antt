pub mod Along
pub mod Laws
pub mod Rest
pub mod Rows
