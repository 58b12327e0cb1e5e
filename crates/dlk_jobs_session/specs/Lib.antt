pub mod Scripts
pub mod Sessions
pub mod Saved
pub mod Written
pub mod Ties
pub mod Parts
