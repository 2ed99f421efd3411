pub mod Places
pub mod MergedTrees
