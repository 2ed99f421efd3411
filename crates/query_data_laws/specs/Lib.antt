pub mod SameTriples
pub mod SetLaws
pub mod TermSets
pub mod Solutions
