pub mod Claims
pub mod Remaining
pub mod Chains
