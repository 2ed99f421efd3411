pub mod Characters
pub mod Terms
pub mod Triples
