pub mod Greedy
pub mod Leaves
pub mod Planned
pub mod Costs
