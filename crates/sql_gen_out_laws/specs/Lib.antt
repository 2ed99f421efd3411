pub mod Outs
pub mod Further
pub mod StepByStep
