pub mod Versions
pub mod TableText
