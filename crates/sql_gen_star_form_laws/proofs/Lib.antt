pub mod StarNames
pub mod Access
pub mod Open
pub mod Pairs
pub mod Cells
pub mod Chain
