pub mod Binders
pub mod Ids
pub mod Looks
pub mod Tables
pub mod Rules
pub mod Tasks
