pub mod Changes
pub mod Contents
pub mod Dictionary
pub mod Schemas
pub mod Sides
pub mod Standing
pub mod Stored
