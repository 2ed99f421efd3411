mod NameLaws
mod Decimals
