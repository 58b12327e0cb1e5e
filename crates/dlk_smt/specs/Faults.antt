-- The answer to several leaves, by the first of them that has no text.
use Rattle.std.specs.Prelude.{◌≡◌, ℕ, Option, Some, None, Result, Ok, Err}
use Rattle.dlk_smt.specs.declared.fault.LeavesFault.{LeavesFault}
use Rattle.dlk_smt.specs.declared.fault.LeavesFault.TheVariants.{Power, Memory}

-- the leaf that is named is the first, and where none is named there is none; memory may run out before
abbrev pub NamesFirst : {A : Type 0} → Option ℕ → Result A LeavesFault → Type 0
NamesFirst first (Ok x) = first ≡ None
NamesFirst first (Err (Power leaf)) = first ≡ Some leaf
NamesFirst first (Err Memory) = Unit {0}
