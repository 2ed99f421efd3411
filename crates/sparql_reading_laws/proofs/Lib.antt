mod Merged
mod Operands
pub mod OneReading
