pub mod ElementRows
