pub mod Terms
pub mod Checks
pub mod Judged
pub mod Guards
pub mod Verdicts
