mod Expressions
mod Trees
pub mod Fragment
