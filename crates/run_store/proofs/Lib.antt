pub mod Bulk
pub mod Making
pub mod Cuts
pub mod Fits
