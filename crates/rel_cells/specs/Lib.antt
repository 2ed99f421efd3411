pub mod Seen
pub mod Fronts
