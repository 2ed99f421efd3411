pub mod Distinct
pub mod Right
