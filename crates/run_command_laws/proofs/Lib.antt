mod Numbers
pub mod Choices
pub mod Spelled
pub mod InRange
