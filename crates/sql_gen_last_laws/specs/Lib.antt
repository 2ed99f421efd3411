pub mod LastSelect
pub mod DistinctSelect
