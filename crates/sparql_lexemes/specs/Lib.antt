pub mod Scopes
pub mod Declarings
pub mod Lexed
