pub mod LastBinds
pub mod Few
