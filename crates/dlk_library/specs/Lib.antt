pub mod Parts
pub mod Library
pub mod Expanded
pub mod Generated
pub mod LibraryExamples
