pub mod Places
pub mod Bags
pub mod Terms
pub mod Decoding
pub mod Sound
pub mod Changes
