pub mod Sessions
pub mod Kept
pub mod Held
