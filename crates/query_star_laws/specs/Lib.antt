pub mod Entities
pub mod StarLeaves
pub mod StarVariables
pub mod Merging
pub mod PlanSolutions
