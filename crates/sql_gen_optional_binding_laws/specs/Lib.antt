pub mod MatchColumns
pub mod MatchBinds
