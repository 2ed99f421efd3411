pub mod Leads
pub mod Takes
