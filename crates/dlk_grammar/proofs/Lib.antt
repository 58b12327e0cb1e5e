pub mod Ascii
pub mod Marks
pub mod Spelled
pub mod Splitting
pub mod SomeSplit
pub mod Real
pub mod Digits
pub mod Lists
