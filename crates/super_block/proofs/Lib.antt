pub mod Tests
pub mod Fits
