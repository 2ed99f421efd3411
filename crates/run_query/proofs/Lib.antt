pub mod Names
pub mod Present
pub mod Scripts
