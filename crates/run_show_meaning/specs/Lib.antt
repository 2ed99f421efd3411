pub mod Scripts
pub mod Showing
