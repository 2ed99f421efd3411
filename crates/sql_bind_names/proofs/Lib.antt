pub mod Headings
pub mod Lookups
pub mod Sighted
pub mod Texts
