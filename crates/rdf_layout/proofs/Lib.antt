pub mod Putting
pub mod Filling
pub mod Keeping
pub mod Keys
pub mod Found
pub mod OneRow
