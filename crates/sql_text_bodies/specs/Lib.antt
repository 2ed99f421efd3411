pub mod Parts
pub mod Bodies
