pub mod Operands
pub mod ItemSteps
pub mod RelSteps
pub mod AndSteps
pub mod OrSteps
pub mod FilterSteps
