pub mod Goals
pub mod Kernel
pub mod Faults
pub mod Limits
pub mod Named
pub mod Sound
pub mod Looks
pub mod Taken
