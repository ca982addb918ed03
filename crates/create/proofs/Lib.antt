pub mod Sites
pub mod Trees
