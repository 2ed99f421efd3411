pub mod GroupSteps
pub mod UnionSteps
