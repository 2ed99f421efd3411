pub mod Chained
pub mod TwoOuts
pub mod OneOut
pub mod Made
