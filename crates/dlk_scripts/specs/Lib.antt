pub mod Parts
pub mod Scripts
pub mod Texts
pub mod Table
pub mod Steps
