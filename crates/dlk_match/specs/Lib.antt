pub mod Abstract
pub mod Rests
pub mod Entered
pub mod Matching
pub mod Instances
pub mod Tried
pub mod Found
pub mod Members
