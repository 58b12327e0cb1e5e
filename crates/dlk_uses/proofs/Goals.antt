-- The lines of a leaf fit, and that of a rule but one.
use Rattle.std.proofs.Common.{◌≢◌, ℕ, ◌+◌, List, [], ◌∷◌, length, refl}
use Rattle.dlk_calculus.specs.declared.reason.Reason.TheVariants.{NotEqual}
use Rattle.dlk_calculus.specs.Sequents.{Sequent}
use Rattle.dlk_calculus.specs.Provables.{Provable, assumed}
use Rattle.dlk_calculus.specs.Rules.{Rule, Close, RuleAgainst}
use Rattle.dlk_calculus.specs.Steps.{Leaf, Apply, Merge, IsGoal}
use Rattle.dlk_uses.proofs.Fitting.{Fit, no_steps, step_fits, leaf_fits, merge_fits}

pub leaf_fits_goal : (rows : List Provable) (fact goal : ℕ) (s : Sequent) → IsGoal rows fact goal s →
    Fit rows (Leaf s ∷ Merge fact goal (length rows + 1) ∷ [])
leaf_fits_goal rows fact goal s g =
    let n = length rows in
    leaf_fits rows n s _ refl
    (λ after is.
    merge_fits after (n + 1) fact goal (n + 1) g.0 (assumed s) s [] is.counted (is.keeps fact g.0 g.1) g.2 is.last refl (λ new all added. no_steps all))

-- no other rule asks that two formulas be the same
asks_no_same : (rule : Rule) (s : Sequent) → ((i j : ℕ) → rule ≢ Close i j) → ¬ RuleAgainst NotEqual rule s
asks_no_same (Close i j) s other u = other i j refl
asks_no_same _ s other u = u.2 tt

pub rule_fits_goal : (rows : List Provable) (fact goal : ℕ) (rule : Rule) → ((i j : ℕ) → rule ≢ Close i j) → Fit rows (Apply fact goal rule ∷ [])
rule_fits_goal rows fact goal rule other =
    step_fits rows (length rows) (Apply fact goal rule) [] refl (λ u. asks_no_same rule u.0 other u.2) (λ row after gives added. no_steps after)
