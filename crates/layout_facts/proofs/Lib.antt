pub mod Told
pub mod KeptIds
