pub mod Written
pub mod QuerySteps
