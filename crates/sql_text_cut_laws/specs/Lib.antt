pub mod OneCut
pub mod Outcomes
