mod Shares
mod Ranks
mod Choosing
mod Taking
