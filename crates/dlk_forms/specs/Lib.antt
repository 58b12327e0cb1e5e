pub mod Said
pub mod Parsing
pub mod Readers
pub mod PairReaders
pub mod ExtraReaders
