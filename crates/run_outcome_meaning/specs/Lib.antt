pub mod Jobs
pub mod Causes
