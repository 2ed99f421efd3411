pub mod NameLaws
pub mod BodyLaws
pub mod CutLaws
