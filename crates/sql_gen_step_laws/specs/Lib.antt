pub mod Carried
pub mod StepSelects
pub mod PlainSelects
pub mod Lookups
pub mod StepTests
pub mod JoinStep
pub mod UnionStep
pub mod LeftStep
