pub mod Texts
pub mod FrontMarks
pub mod Comments
pub mod Fronts
pub mod Literals
pub mod FirstTokens
pub mod Steps
pub mod Sources
