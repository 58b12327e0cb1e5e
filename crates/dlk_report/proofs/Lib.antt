pub mod Ascii
pub mod Compact
