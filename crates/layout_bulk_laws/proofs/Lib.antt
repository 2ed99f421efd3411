pub mod Placing
pub mod Bulks
