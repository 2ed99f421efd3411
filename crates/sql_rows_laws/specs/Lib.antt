pub mod CellLaws
pub mod ExpressionInduction
pub mod KindLaws
pub mod SourceLaws
pub mod SelectLaws
pub mod ScriptLaws
pub mod NameLaws
