pub mod Finding
pub mod Groups
pub mod RowLaws
pub mod Parts
pub mod Alone
