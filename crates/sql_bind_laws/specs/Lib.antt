pub mod PlaceLaws
pub mod PlacedRows
pub mod PlacedSelects
pub mod PlacedValues
pub mod Places
