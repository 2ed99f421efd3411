pub mod TableCells
pub mod Level
pub mod Picking
pub mod Stays
