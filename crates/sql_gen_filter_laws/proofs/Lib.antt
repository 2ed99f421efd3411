pub mod Cases
pub mod Terms
pub mod Starts
pub mod Chains
pub mod Nodes
pub mod Whole
