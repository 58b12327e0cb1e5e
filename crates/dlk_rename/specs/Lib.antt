pub mod Bindings
pub mod Faults
pub mod Exchanges
