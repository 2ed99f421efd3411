pub mod Aliases
pub mod RenamedRows
pub mod RenamedValues
