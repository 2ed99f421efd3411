pub mod Stars
pub mod Plans
pub mod PlanLaws
pub mod Merged
