pub mod CaseKinds
pub mod Fine
pub mod Paths
pub mod Walked
