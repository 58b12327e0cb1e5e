pub mod Faults
pub mod Measures
pub mod Stacks
pub mod Measuring
pub mod Made
pub mod Making
pub mod Limits
pub mod Said
