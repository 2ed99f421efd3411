pub mod Numbering
pub mod Shown
