pub mod InSight
pub mod Parts
pub mod AccessBinds
pub mod OpenBinds
pub mod PairsBind
pub mod Chain
