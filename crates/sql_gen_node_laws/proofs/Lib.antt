pub mod Sides
pub mod BothNodes
pub mod LoneNodes
pub mod Conditional
pub mod Leaves
