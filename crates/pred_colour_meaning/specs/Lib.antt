pub mod Interference
pub mod Colouring
