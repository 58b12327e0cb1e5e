pub mod Reports
pub mod Shown
pub mod Json
pub mod Values
