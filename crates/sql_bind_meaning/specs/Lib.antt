pub mod Levels
pub mod Values
pub mod ValueLaws
pub mod Sources
pub mod Selects
pub mod Rows
