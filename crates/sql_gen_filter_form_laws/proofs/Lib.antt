pub mod Closed
pub mod Parts
pub mod Whole
pub mod TruthKinds
pub mod Forms
pub mod Columns
pub mod ConditionNames
