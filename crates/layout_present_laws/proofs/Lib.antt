pub mod Stand
pub mod ListIds
