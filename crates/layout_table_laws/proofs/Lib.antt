pub mod Candidates
pub mod First
pub mod Found
pub mod Held
pub mod Once
pub mod Readable
pub mod Strangers
pub mod TermRows
