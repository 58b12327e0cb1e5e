pub mod Kept
pub mod KeptPairs
mod Dots
mod Formulas
mod SameSides
pub mod Last
mod Chosen
mod Pairs
mod SymbolKeys
mod KidAt
pub mod Turns
