pub mod Expressions
pub mod Names
pub mod Parts
pub mod Bodies
pub mod Joins
pub mod Terms
