pub mod OneQuery
