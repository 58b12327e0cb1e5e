pub mod Smt
pub mod Collected
pub mod Faults
pub mod Examples
