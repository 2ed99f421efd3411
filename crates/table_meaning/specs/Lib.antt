pub mod Schemas
pub mod Tables
pub mod Names
pub mod Ints
pub mod CellText
pub mod TableLaws
pub mod IntLaws
