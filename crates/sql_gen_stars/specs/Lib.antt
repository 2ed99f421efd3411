pub mod ArmItems
