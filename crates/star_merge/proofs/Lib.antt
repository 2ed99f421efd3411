mod Forms
mod Putting
mod ByKind
mod Counted
