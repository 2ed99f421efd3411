pub mod Pairs
pub mod ReadingLaws
