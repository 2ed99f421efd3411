pub mod Sound
pub mod Refusal
