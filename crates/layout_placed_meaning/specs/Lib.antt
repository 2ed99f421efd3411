pub mod Placed
pub mod StatsText
pub mod Chosen
pub mod RunStores
