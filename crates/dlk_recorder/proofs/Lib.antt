pub mod Writable
pub mod WholeFile
pub mod TakenWritable
pub mod FewNodes
pub mod Kept
