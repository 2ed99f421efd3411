pub mod RowOrder
pub mod Shown
