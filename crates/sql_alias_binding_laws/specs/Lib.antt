pub mod BothChecked
pub mod BoundBodies
pub mod BoundExpressions
pub mod BoundScripts
pub mod BoundSelects
pub mod BoundSources
