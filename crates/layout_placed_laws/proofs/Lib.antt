pub mod BulkLists
pub mod Steps
pub mod Same
