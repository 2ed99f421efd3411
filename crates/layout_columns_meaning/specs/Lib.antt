pub mod BulkColours
pub mod Layouts
