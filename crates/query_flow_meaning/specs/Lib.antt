pub mod Flow
pub mod Planned
