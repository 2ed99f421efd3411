pub mod StarOuts
