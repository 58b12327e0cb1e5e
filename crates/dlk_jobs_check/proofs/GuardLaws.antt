-- The laws of the guard, as answers want them.
use Rattle.std.proofs.Common.{◌≡◌, ◌⊎◌, ℕ, List, None, Some}
use Rattle.dlk_guard.specs.declared.why.Why.{Why}
use Rattle.dlk_guard.specs.declared.guard.Refusal.{Refusal}
use Rattle.dlk_guard.specs.Guarded.{Line, Guarded, FirstUnguarded}
use Rattle.dlk_guard.specs.Watched.{watch_of, verdict}

-- there is one first line that is unguarded, for one reason
abbrev pub OneFirst : Type 0
OneFirst = (all : List Line) (m n : ℕ) (why other : Why) → FirstUnguarded all m why → FirstUnguarded all n other → (m ≡ n) × (why ≡ other)

-- or the lines are guarded
abbrev pub SomeFirst : Type 0
SomeFirst = (all : List Line) → Guarded all ⊎ ((n : ℕ) × (why : Why) × FirstUnguarded all n why)

-- the verdict of a guard that saw the lines
abbrev pub NoneSaid : Type 0
NoneSaid = (all : List Line) → verdict (watch_of all) ≡ None → Guarded all

abbrev pub FirstSaid : Type 0
FirstSaid = (all : List Line) (r : Refusal) → verdict (watch_of all) ≡ Some r → FirstUnguarded all r.line r.why
