pub mod Fits
pub mod NewNames
pub mod Parts
pub mod Renamed
