pub mod Refused
pub mod Bulk
pub mod Gathered
pub mod OneRow
