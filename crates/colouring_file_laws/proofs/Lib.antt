pub mod Computed
pub mod Faults
