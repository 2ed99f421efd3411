pub mod Leaves
pub mod Starts
pub mod Exprs
pub mod Lists
