pub mod Line
pub mod Decimal
pub mod Text
