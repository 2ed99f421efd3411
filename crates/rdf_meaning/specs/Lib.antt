pub mod Known
pub mod Texts
pub mod Characters
pub mod Digits
pub mod Terms
pub mod Spelling
pub mod TermLaws
