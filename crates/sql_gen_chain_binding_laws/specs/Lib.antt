pub mod StepsBind
