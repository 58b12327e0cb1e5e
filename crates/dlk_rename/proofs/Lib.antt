pub mod Exchanged
pub mod Signatures
pub mod Binders
