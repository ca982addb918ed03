pub mod Block
pub mod One
