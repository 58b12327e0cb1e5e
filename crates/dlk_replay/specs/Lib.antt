pub mod Formats
pub mod Files
pub mod Symbols
pub mod Replay
pub mod Examples
