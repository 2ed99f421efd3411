pub mod Table
pub mod Outcomes
pub mod Steps
pub mod Tests
