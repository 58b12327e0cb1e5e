pub mod Turning
pub mod MainGoals
pub mod Stated
pub mod Copied
pub mod Holding
