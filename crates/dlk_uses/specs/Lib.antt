pub mod Uses
pub mod Places
pub mod Taking
pub mod Applying
pub mod UseExamples
