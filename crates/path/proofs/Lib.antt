pub mod Bytes
pub mod Ends
pub mod Examples
pub mod FullPaths
pub mod Pieces
