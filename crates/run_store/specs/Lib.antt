pub mod Limited
pub mod Cutting
pub mod Ways
pub mod Refused
