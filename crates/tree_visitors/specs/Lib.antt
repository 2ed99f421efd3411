pub mod AnyNode
pub mod Counted
pub mod Levels
pub mod Shapes
pub mod TreeVariables
