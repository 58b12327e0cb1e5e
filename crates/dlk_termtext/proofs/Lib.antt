pub mod Refusals
pub mod InFull
pub mod LineLaws
pub mod Readback
