pub mod Blocks
pub mod Merges
pub mod Places
