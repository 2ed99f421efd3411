pub mod Chosen
pub mod Fit
