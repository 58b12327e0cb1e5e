pub mod Codes
pub mod Halves
pub mod Shows
pub mod Ends
pub mod Outcomes
pub mod Owed
