pub mod Items
pub mod Rows
pub mod Stays
pub mod Sides
pub mod Values
