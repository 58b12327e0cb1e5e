pub mod Tactics
pub mod Rows
pub mod Faults
pub mod Strategies
pub mod Steps
pub mod Ties
pub mod States
