pub mod Asks
pub mod Loads
