pub mod Texts
pub mod Ends
pub mod Numbers
pub mod Pieces
pub mod Runs
pub mod Readings
