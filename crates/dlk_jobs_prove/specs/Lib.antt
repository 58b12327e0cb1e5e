pub mod Proves
pub mod Proved
pub mod Generates
