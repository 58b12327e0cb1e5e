pub mod Growth
mod GoalLists
pub mod Measured
pub mod Limited
pub mod LimitRows
pub mod RowLaws
pub mod AxiomRows
pub mod LeafLaws
pub mod MergeLaws
pub mod Reading
pub mod Renamed
pub mod Substituted
pub mod Looked
pub mod Starting
pub mod RowsKept
