pub mod Certain
pub mod Patterns
