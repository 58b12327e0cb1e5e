pub mod OverIds
mod KidsOf
mod Quantified
pub mod WordLaws
pub mod StepsKept
pub mod SideLaws
mod Renumbered
