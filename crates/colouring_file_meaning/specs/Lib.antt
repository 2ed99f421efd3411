pub mod ColourLines
pub mod ColourReader
