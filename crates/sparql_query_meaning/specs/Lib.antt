pub mod Prefixes
pub mod Lexemes
pub mod Limits
pub mod Features
pub mod Queries
pub mod Fragment
