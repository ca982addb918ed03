pub mod Names
pub mod Filter
