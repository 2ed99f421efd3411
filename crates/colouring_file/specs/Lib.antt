pub mod Colours
pub mod Readings
