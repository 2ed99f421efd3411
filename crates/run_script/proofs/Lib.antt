pub mod SchemaSteps
pub mod Bound
pub mod Again
