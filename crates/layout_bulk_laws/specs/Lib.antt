pub mod BulkStore
pub mod BulkLaws
