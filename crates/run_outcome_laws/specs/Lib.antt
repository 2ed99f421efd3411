pub mod BreakPlaces
pub mod OneOutcome
