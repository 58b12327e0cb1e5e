pub mod Sequents
pub mod Substitutions
pub mod Spines
pub mod Extras
pub mod Growth
pub mod SymbolSets
