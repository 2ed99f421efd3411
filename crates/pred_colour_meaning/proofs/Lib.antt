pub mod Ranks
pub mod Steps
pub mod Made
pub mod Unique
