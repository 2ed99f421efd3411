pub mod Cells
pub mod Places
pub mod Counted
pub mod Kept
pub mod Answers
pub mod Views
pub mod Held
