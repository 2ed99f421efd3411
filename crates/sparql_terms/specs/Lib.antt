pub mod TermSteps
pub mod TripleSteps
