pub mod Numbered
pub mod Namings
pub mod NumberedStars
