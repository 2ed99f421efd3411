pub mod Merging
pub mod Accesses
