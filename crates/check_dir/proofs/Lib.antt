pub mod WalkedBlocks
pub mod Holds
pub mod DirBlocks
