pub mod TreeLevels
pub mod TreeNodes
pub mod NamedArms
