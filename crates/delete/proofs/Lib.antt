pub mod Accepted
pub mod Answers
pub mod OnVolume
