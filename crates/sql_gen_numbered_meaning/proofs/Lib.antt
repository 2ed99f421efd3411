pub mod Apart
pub mod StepNames
pub mod Written
pub mod WrittenStars
