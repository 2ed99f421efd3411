pub mod InRows
pub mod Equality
pub mod KeyLaws
pub mod Added
pub mod Chunks
pub mod Cut
