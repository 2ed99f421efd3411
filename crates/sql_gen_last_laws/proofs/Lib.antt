pub mod PlaceOrder
pub mod Decoded
pub mod LastRows
pub mod Firsts
pub mod DistinctRows
pub mod DistinctAnswer
