pub mod Marks
pub mod Kinds
pub mod Tokens
pub mod Scripts
pub mod Grammar
pub mod Texts
pub mod Canon
pub mod Levels
