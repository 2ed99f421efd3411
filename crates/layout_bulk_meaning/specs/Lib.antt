pub mod Appended
pub mod Bulk
