pub mod Refusals
pub mod Says
