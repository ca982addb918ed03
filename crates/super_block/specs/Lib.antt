pub mod Super
pub mod One
