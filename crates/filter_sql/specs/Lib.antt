pub mod SqlOf
