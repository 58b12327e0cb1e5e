-- Steps that unlike formulas can't speak against.
use Rattle.std.proofs.Common.{◌≡◌, ◌≢◌, List, refl, subst}
use Rattle.dlk_calculus.specs.declared.reason.Reason.{Reason}
use Rattle.dlk_calculus.specs.declared.reason.Reason.TheVariants.{NotEqual}
use Rattle.dlk_calculus.specs.Places.{At}
use Rattle.dlk_calculus.specs.Sequents.{Sequent}
use Rattle.dlk_calculus.specs.Provables.{Provable}
use Rattle.dlk_calculus.specs.Rules.{RuleAgainst}
use Rattle.dlk_calculus.specs.Steps.{Step, Start, UseAxiom, UseRule, Leaf, Apply, Merge, Substitute, Rename, IsGoal, Exceeds, Against, Fault}
use Rattle.dlk_calculus.specs.Steps.{too_big, too_deep, start_full, leaf_full, side_full, goals_applied, goals_merged, leaves_merged}
use Rattle.dlk_calculus.specs.Steps.{no_fact_to_apply, no_fact_to_merge, no_fact_to_substitute, no_fact_to_rename, no_goal_to_apply, no_goal_to_merge}
use Rattle.dlk_calculus.specs.Steps.{unknown_axiom, unknown_rule, against_rule, start_no_formulas, leaf_no_formulas, other_goal, no_arithmetic}
use Rattle.dlk_calculus.specs.Steps.{ill_pairs, free_over_goals, not_admissible, past_limit, rows_full}

-- what is unlike where a step is refused for it
abbrev pub Unlike : List Provable → Step → Type 0
Unlike rows (Start s) = ⊥
Unlike rows (UseAxiom name) = ⊥
Unlike rows (UseRule name) = ⊥
Unlike rows (Leaf s) = ⊥
Unlike rows (Apply fact goal rule) = (s : Sequent) × IsGoal rows fact goal s × RuleAgainst NotEqual rule s
Unlike rows (Merge fact goal by) = (s : Sequent) × (q : Provable) × IsGoal rows fact goal s × At rows by q × (s ≢ q.conclusion)
Unlike rows (Substitute fact pairs) = ⊥
Unlike rows (Rename fact x y) = ⊥

no_limit : (why : Reason) (step : Step) (p : Provable) → Exceeds why step p → why ≡ NotEqual → ⊥
no_limit _ step p (too_big n) e = absurd (cc e)
no_limit _ step p (too_deep n) e = absurd (cc e)
no_limit _ _ p (start_full n) e = absurd (cc e)
no_limit _ _ p (leaf_full n) e = absurd (cc e)
no_limit _ _ p (side_full n) e = absurd (cc e)
no_limit _ _ p (goals_applied n) e = absurd (cc e)
no_limit _ _ p (goals_merged n) e = absurd (cc e)
no_limit _ _ p (leaves_merged n) e = absurd (cc e)

unlike : (rows : List Provable) (step : Step) (why : Reason) → Against rows step why → why ≡ NotEqual → Unlike rows step
unlike rows _ _ (no_fact_to_apply n) e = absurd (cc e)
unlike rows _ _ (no_fact_to_merge n) e = absurd (cc e)
unlike rows _ _ (no_fact_to_substitute n) e = absurd (cc e)
unlike rows _ _ (no_fact_to_rename n) e = absurd (cc e)
unlike rows _ _ (no_goal_to_apply p row n) e = absurd (cc e)
unlike rows _ _ (no_goal_to_merge p row n) e = absurd (cc e)
unlike rows _ _ (unknown_axiom n) e = absurd (cc e)
unlike rows _ _ (unknown_rule n) e = absurd (cc e)
unlike rows _ _ (against_rule {rule} s goal against) e = (s, goal, subst (λ why. RuleAgainst why rule s) e against)
unlike rows _ _ (start_no_formulas n) e = absurd (cc e)
unlike rows _ _ (leaf_no_formulas n) e = absurd (cc e)
unlike rows _ _ (other_goal s q goal row n) e = (s, q, goal, row, n)
unlike rows _ _ (no_arithmetic n) e = absurd (cc e)
unlike rows _ _ (ill_pairs n) e = absurd (cc e)
unlike rows _ _ (free_over_goals p row has free) e = absurd (cc e)
unlike rows _ _ (not_admissible p row none) e = absurd (cc e)
unlike rows step _ (past_limit p gives exceeds) e = absurd (no_limit _ step p exceeds e)
unlike rows step _ (rows_full full) e = absurd (cc e)

pub unlike_fault : (rows : List Provable) (step : Step) → Fault rows step NotEqual → Unlike rows step
unlike_fault rows step fault = unlike rows step NotEqual fault.against refl
