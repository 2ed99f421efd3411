pub mod ListIds
