pub mod FirstsAsTheyCome
