pub mod AccessLaws
