pub mod Ends
pub mod Smooth
pub mod Instances
pub mod Guarded
pub mod Looks
pub mod Watched
pub mod GuardExamples
