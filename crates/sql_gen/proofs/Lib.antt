pub mod TreeOuts
pub mod Compiled
