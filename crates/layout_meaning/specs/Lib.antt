pub mod Columns
pub mod Facts
pub mod Lists
pub mod Rows
pub mod Side
pub mod Sound
