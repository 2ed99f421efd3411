pub mod Characters
pub mod Labels
pub mod Lines
pub mod Grammar
pub mod Reader
pub mod Changes
