pub mod Columns
pub mod Chains
pub mod Tests
pub mod Filters
pub mod Leaves
pub mod Connectives
pub mod ConditionVariables
