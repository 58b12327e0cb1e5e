pub mod Bits
pub mod Words
pub mod Numbering
pub mod Members
pub mod FourWords
