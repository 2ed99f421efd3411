pub mod Compilable
pub mod RightScripts
