pub mod Passing
pub mod Constants
pub mod Stars
pub mod Depth
pub mod Short
pub mod Plans
