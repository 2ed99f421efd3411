pub mod TreeOuts
