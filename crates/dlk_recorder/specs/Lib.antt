pub mod Terms
pub mod Recorded
