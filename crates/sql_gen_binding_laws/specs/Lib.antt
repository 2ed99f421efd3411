pub mod StepColumns
pub mod StepBinds
pub mod TermBinds
