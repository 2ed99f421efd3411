pub mod ByEntity
pub mod Colours
pub mod Distinct
