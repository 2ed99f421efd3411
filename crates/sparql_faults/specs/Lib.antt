pub mod Depth
pub mod Roles
pub mod Passing
pub mod States
pub mod Faults
