pub mod MatchRows
pub mod MatchStep
pub mod OptionalStep
pub mod WholeOptional
