pub mod Children
pub mod Shapes
