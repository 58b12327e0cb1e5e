-- How many nodes a step looks at, at most, where it substitutes.
use Rattle.std.specs.Prelude.{ℕ, ◌+◌, ◌*◌, ◌≤◌, length, List, Option, None, Some}
use Rattle.std.specs.List.{sum_by}
use Rattle.dlk_calculus.specs.Places.{at}
use Rattle.dlk_calculus.specs.Sequents.{Sequent}
use Rattle.dlk_calculus.specs.Provables.{Provable}
use Rattle.dlk_calculus.specs.Pairs.{Pair}
use Rattle.dlk_calculus.specs.Steps.{Step, Start, UseAxiom, UseRule, Leaf, Apply, Merge, Substitute, Rename}
use Rattle.dlk_memo.specs.Looks.{most_looks}

-- those in the formulas of a sequent
abbrev pub sequent_looks : List Pair → Sequent → ℕ
sequent_looks pairs s = sum_by (most_looks pairs) s.ante + sum_by (most_looks pairs) s.succ

-- those in the formulas of conclusion and goals
abbrev pub provable_looks : List Pair → Provable → ℕ
provable_looks pairs p = sequent_looks pairs p.conclusion + sum_by (sequent_looks pairs) p.goals

-- none where there is no such fact
abbrev pub fact_looks : List Pair → Option Provable → ℕ
fact_looks pairs None = 0
fact_looks pairs (Some p) = provable_looks pairs p

-- LooksAtFew rows step old new: from the old count of looks to the new one. A substitution takes two looks a pair, and those in its fact. Of
-- other steps nothing is said.
abbrev pub LooksAtFew : List Provable → Step → ℕ → ℕ → Type 0
LooksAtFew rows (Start s) old new = Unit {0}
LooksAtFew rows (UseAxiom name) old new = Unit {0}
LooksAtFew rows (UseRule name) old new = Unit {0}
LooksAtFew rows (Leaf s) old new = Unit {0}
LooksAtFew rows (Apply fact goal rule) old new = Unit {0}
LooksAtFew rows (Merge fact goal by) old new = Unit {0}
LooksAtFew rows (Substitute fact pairs) old new = new ≤ old + (2 * length pairs + fact_looks pairs (at rows fact))
LooksAtFew rows (Rename fact x y) old new = Unit {0}
