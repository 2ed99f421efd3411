pub mod Each
pub mod Nodes
