mod Places
mod TreePlans
mod Comes
