-- The goals of a row.
use Rattle.std.specs.Prelude.{List, [], ◌∷◌}
use Rattle.dlk_sequent.specs.declared.sequent.Sequent.{Sequent}
use Rattle.dlk_kernel.specs.declared.goals.Kept.{Kept}
use Rattle.dlk_kernel.specs.declared.goals.Kept.TheVariants as kept

-- in order, wherever they stand
abbrev pub goals_of : Kept → List Sequent
goals_of kept.None = []
goals_of (kept.One goal) = goal ∷ []
goals_of (kept.Two goals) = goals
goals_of (kept.More goals) = goals.items
