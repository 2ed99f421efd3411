pub mod RowForms
pub mod Places
pub mod TermLists
mod Ordered
