pub mod Faults
pub mod Fronts
pub mod Noted
pub mod Taken
pub mod Sources
