pub mod Named
pub mod Present
pub mod Counts
