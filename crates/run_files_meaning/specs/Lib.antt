pub mod Intake
pub mod Files
pub mod Refusal
pub mod Taken
pub mod Job
