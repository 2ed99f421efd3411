pub mod Subjects
pub mod Constants
