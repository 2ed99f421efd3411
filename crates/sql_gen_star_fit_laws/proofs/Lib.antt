pub mod Fits
pub mod Distinct
pub mod Readable
