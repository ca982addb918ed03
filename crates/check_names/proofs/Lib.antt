pub mod Among
pub mod Parts
pub mod Marks
pub mod Along
