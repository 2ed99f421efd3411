pub mod OrderSteps
pub mod SliceSteps
