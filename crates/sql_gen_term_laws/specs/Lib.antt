pub mod TermTable
pub mod TermJoin
pub mod TermChain
pub mod Filters
pub mod FilterStep
