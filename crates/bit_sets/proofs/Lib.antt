pub mod Counted
pub mod Found
pub mod Lowest
pub mod Members
pub mod Merged
pub mod Rising
pub mod Searched
pub mod Shared
