use Rattle.std.proofs.Common.{◌≡◌, ℕ, List, [], ◌∷◌, ◌++◌, codes, refl}
use Rattle.dlk_calculus.specs.Sequents.{Sequent}
use Rattle.dlk_print.specs.Lines.{line}
use Rattle.dlk_report.specs.Reports.{first_word, is_closed}
use Rattle.dlk_report.proofs.laws.first_line.Goals as goal

closed_first : (goals : List Sequent) (rest : List ℕ) → goals ≡ [] → line (first_word (is_closed goals)) ++ rest ≡ codes "closed" ++ 10 ∷ rest
closed_first [] rest h = refl
closed_first (g ∷ goals) rest h = absurd cc

pub returns-clause-closed : goal.returns-clause-closed
returns-clause-closed c p lines h = (_, closed_first p.goals _ h)
