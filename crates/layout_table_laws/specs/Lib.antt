pub mod TermIds
