pub mod Cells
pub mod Ids
pub mod Contents
pub mod Triples
pub mod Order
pub mod Told
pub mod Spilled
