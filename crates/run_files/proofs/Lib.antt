mod Texts
mod Files
