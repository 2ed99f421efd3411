pub mod Turns
pub mod MoreLists
pub mod Sides
pub mod Going
