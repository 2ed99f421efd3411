pub mod EachAnswer
