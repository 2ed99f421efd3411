pub mod ValueSteps
pub mod ListSteps
pub mod OperatorSteps
pub mod TestSteps
