pub mod Openings
pub mod Variables
pub mod Told
pub mod Asked
pub mod ArmStars
pub mod PairStars
pub mod EitherStars
pub mod StarNodes
