pub mod Numbers
pub mod Passed
pub mod Exits
pub mod Said
