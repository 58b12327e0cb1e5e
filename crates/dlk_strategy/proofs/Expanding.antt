-- Runs of strategies in which names of the library stand.
use Rattle.std.proofs.Common.{◌≡◌, subst}
use Rattle.dlk_tree.specs.Trees.{Tree}
use Rattle.dlk_tacsyn.specs.Tactics.{Tactic}
use Rattle.dlk_library.specs.Expanded.{Expanded}
use Rattle.dlk_strategy.specs.Runs.{Outcome, RunsPlain, RunsModel}

-- what the strategy becomes is one, and so is its outcome
pub one_model : ((t a b : Tactic) → Expanded t a → Expanded t b → a ≡ b) →
    ((t : Tactic) (formula : Tree) (a b : Outcome) → RunsPlain t formula a → RunsPlain t formula b → a ≡ b) →
    (t : Tactic) (formula : Tree) (a b : Outcome) → RunsModel t formula a → RunsModel t formula b → a ≡ b
one_model one_expansion one_plain t formula a b p q =
    let same : p.expansion ≡ q.expansion = one_expansion t p.expansion q.expansion p.expanded q.expanded in
    one_plain q.expansion formula a b (subst (λ (u : Tactic). RunsPlain u formula a) same p.runs) q.runs
