pub mod GroupInduction
pub mod Parts
pub mod TreePatterns
