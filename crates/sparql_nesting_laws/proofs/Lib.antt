mod Spots
mod Again
mod Kept
mod Groups
mod Roles
mod Expressions
mod Depths
mod Limits
