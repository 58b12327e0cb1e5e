pub mod Binders
pub mod Parts
pub mod Rows
pub mod Tables
pub mod Counted
pub mod Rules
pub mod Tasks
