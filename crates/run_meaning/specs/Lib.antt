pub mod Codes
pub mod Words
pub mod Limits
pub mod Ranges
pub mod Spelling
