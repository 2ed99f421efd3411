pub mod Columns
pub mod Decode
