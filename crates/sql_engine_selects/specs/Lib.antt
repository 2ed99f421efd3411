pub mod SameRows
pub mod Numbered
pub mod KeyedRows
