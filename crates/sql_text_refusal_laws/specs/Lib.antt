pub mod EachCut
pub mod EachText
pub mod EachAnswer
