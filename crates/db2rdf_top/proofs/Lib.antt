mod Jobs
mod Ends
