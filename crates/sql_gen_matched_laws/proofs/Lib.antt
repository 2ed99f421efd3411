pub mod Passed
pub mod PassedBinds
pub mod PassedFits
