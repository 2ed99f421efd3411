pub mod QueryFile
pub mod Answering
