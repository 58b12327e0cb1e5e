pub mod Made
pub mod Converts
pub mod Links
pub mod Trims
pub mod Kept
pub mod Refused
