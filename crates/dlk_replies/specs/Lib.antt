pub mod Forms
pub mod Replies
pub mod Inputs
pub mod Refusals
pub mod Refused
pub mod Shown
pub mod Ended
