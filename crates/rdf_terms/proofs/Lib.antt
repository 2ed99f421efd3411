pub mod Numbers
pub mod Moments
pub mod Ranked
