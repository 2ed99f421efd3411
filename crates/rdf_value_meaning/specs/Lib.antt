pub mod Datatypes
pub mod Numbers
pub mod Calendar
pub mod Moments
pub mod Values
pub mod TermOrder
pub mod OrderLaws
