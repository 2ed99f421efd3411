pub mod Columns
pub mod Entities
pub mod Given
pub mod GraphRows
pub mod Turns
