pub mod Records
pub mod Fates
