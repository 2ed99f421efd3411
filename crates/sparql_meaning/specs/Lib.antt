pub mod Words
pub mod Classes
pub mod Tokens
pub mod Cut
pub mod Translation
pub mod Constants
