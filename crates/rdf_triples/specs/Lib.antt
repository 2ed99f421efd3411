pub mod Refusals
pub mod Held
pub mod Taking
pub mod PresentLaws
