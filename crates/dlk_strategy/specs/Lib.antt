pub mod Whys
pub mod Runs
pub mod Differentiated
pub mod Ties
