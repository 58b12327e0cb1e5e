pub mod Prints
pub mod Lists
pub mod Substitutes
pub mod Refused
pub mod Looks
