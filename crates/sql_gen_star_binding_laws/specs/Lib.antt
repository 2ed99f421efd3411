pub mod StarColumns
pub mod StarSchemas
