-- The row that a step gives, and the faults of a step that gives none.
use Rattle.std.proofs.Common.{◌≡◌, ℕ, ◌-◌, List, [], ◌∷◌, map, ap, ◌∙◌, Some, None}
use Rattle.std.specs.List.{All}
use Rattle.std.specs.Prelude.{Result, Ok, Err, IfOk, IfErr}
use Rattle.std.specs.Option.{option_map}
use Rattle.std.proofs.lemmas.List.{map-append, take-map, drop-map}
use Rattle.std.proofs.lemmas.List.Elements.{All-append, All-take, All-drop}
use Rattle.dlk_tree.specs.Trees.{Tree}
use Rattle.dlk_store.specs.Stores.{Keeps}
use Rattle.dlk_calculus.specs.declared.reason.Reason.TheVariants.{NoGoal, NoPlace, WrongShape, NotEqual, NotFresh}
use Rattle.dlk_calculus.specs.Places.{at, IsPlace, put_all}
use Rattle.dlk_calculus.specs.Sequents.{IsSequent}
use Rattle.dlk_calculus.specs.Rules.{Rule, IsProperRule, Premises, FirstAgainst}
use Rattle.dlk_calculus.specs.Provables.{Provable, HasFormulas, applied}
use Rattle.dlk_calculus.specs.Steps.{Step, Start, Apply, Gives, start, apply, IsGoal, Fault}
use Rattle.dlk_calculus.proofs.PlaceLaws.{at-map, At-map, At_All, at_none}
use Rattle.dlk_calculus.proofs.StepLaws.{first_no_goal_to_apply, first_against_rule}
use Rattle.dlk_sequent.specs.declared.sequent.Sequent.{Sequent}
use Rattle.dlk_sequent.specs.Sequents.{sequent_at, IsKnown}
use Rattle.dlk_sequent.proofs.Kept.{sequent-kept, sequents-kept}
use Rattle.dlk_rules.specs.declared.rule.RuleFault.{RuleFault}
use Rattle.dlk_rules.specs.declared.rule.RuleFault.TheVariants as rule_fault_of
use Rattle.dlk_rules.specs.Steps.{IsRuleFault}
use Rattle.dlk_kernel.specs.declared.row.Row.{Row}
use Rattle.dlk_kernel.specs.declared.fault.StepFault.{StepFault}
use Rattle.dlk_kernel.specs.declared.fault.StepFault.TheVariants.{Refused, Memory}
use Rattle.dlk_kernel.specs.Faults.{IsStepFault, fault_of}
use Rattle.dlk_kernel.specs.Kernel.{provable_at, provables_at, IsKnownRow}
use Rattle.dlk_kernel.proofs.Growth.{row_kept}

pub put_all-map : {A B : Type 0} (f : A → B) (items : List A) (place : ℕ) (new : List A) →
    map f (put_all items place new) ≡ put_all (map f items) place (map f new)
put_all-map f items place new = simp (map-append, take-map, drop-map)

pub started_given : (trees : List Tree) (s : Sequent) (row : Row) → IsSequent (sequent_at trees s) →
    row ≡ record { conclusion = s; goals = s ∷ []; leaves = [] } →
    (rows : List Provable) → Gives rows (Start (sequent_at trees s)) (provable_at trees row)
started_given trees s row h is rows = rw is (start (sequent_at trees s) h)

-- what a start gives from any rows, and refuses over any rows, it does here
pub given_here : (trees : List Tree) (rows : List Provable) (step : Step) (r : Result Row StepFault) →
    IfOk r (λ row. (any : List Provable) → Gives any step (provable_at trees row)) →
    IfOk r (λ row. Gives rows step (provable_at trees row))
given_here trees rows step (Ok row) given = given rows
given_here trees rows step (Err fault) given = tt

pub refused_here : (rows : List Provable) (step : Step) (r : Result Row StepFault) →
    IfErr r (IsStepFault (λ why. (any : List Provable) → Fault any step why)) → IfErr r (IsStepFault (Fault rows step))
refused_here rows step (Ok row) fault = tt
refused_here rows step (Err (Refused why)) fault = fault rows
refused_here rows step (Err Memory) fault = tt

-- the goal of a fact is a sequent of formulas
pub goal_formulas : (trees : List Tree) (rows : List Row) (fact goal : ℕ) (row : Row) (s : Sequent) → All HasFormulas (provables_at trees rows) →
    at rows fact ≡ Some row → at row.goals goal ≡ Some s →
    IsSequent (sequent_at trees s)
goal_formulas trees rows fact goal row s h there goal_there =
    let p = At_All HasFormulas (provables_at trees rows) fact (provable_at trees row) h (At-map (provable_at trees) rows fact row there) in
    At_All IsSequent (map (sequent_at trees) row.goals) goal (sequent_at trees s) p.goals (At-map (sequent_at trees) row.goals goal s goal_there)

-- where there is no row, there is no fact
pub no_such_fact : (trees : List Tree) (rows : List Row) (fact : ℕ) → at rows fact ≡ None → ¬ IsPlace (provables_at trees rows) fact
no_such_fact trees rows fact none =
    at_none (map (provable_at trees) rows) fact (at-map (provable_at trees) rows fact ∙ ap (option_map (provable_at trees)) none)

-- a fact that is there has no such goal
pub goal_not_there : (trees : List Tree) (rows : List Row) (fact goal : ℕ) (rule : Rule) (row : Row) → at rows fact ≡ Some row →
    at row.goals goal ≡ None → Fault (provables_at trees rows) (Apply fact goal rule) NoGoal
goal_not_there trees rows fact goal rule row there none =
    first_no_goal_to_apply (provables_at trees rows) fact goal rule (provable_at trees row) (At-map (provable_at trees) rows fact row there)
    (at_none (map (sequent_at trees) row.goals) goal (at-map (sequent_at trees) row.goals goal ∙ ap (option_map (sequent_at trees)) none))

-- a rule on a goal that is there
module _ (old : List Tree) (rows : List Row) (fact goal : ℕ) (rule : Rule) (row : Row) (s : Sequent) (there : at rows fact ≡ Some row)
    (goal_there : at row.goals goal ≡ Some s) where
  abbrev is_goal : IsGoal (provables_at old rows) fact goal (sequent_at old s)
  is_goal = (provable_at old row, At-map (provable_at old) rows fact row there, At-map (sequent_at old) row.goals goal s goal_there)

  pub rule_refused : (why : RuleFault) → IsRuleFault (FirstAgainst rule (sequent_at old s)) why →
      IsStepFault (Fault (provables_at old rows) (Apply fact goal rule)) (fault_of why)
  rule_refused rule_fault_of.NoPlace f = first_against_rule (provables_at old rows) fact goal rule (sequent_at old s) is_goal NoPlace f
  rule_refused rule_fault_of.WrongShape f = first_against_rule (provables_at old rows) fact goal rule (sequent_at old s) is_goal WrongShape f
  rule_refused rule_fault_of.NotEqual f = first_against_rule (provables_at old rows) fact goal rule (sequent_at old s) is_goal NotEqual f
  rule_refused rule_fault_of.NotFresh f = first_against_rule (provables_at old rows) fact goal rule (sequent_at old s) is_goal NotFresh f
  rule_refused rule_fault_of.Memory f = tt

  -- the row with the premises in the goal's place, over a store that has grown
  module _ (new : List Tree) (keeps : Keeps old new) (known : IsKnownRow old row) (ps : List Sequent) (r : Row)
      (is : r ≡ record { conclusion = row.conclusion; goals = put_all row.goals goal ps; leaves = row.leaves }) where
    pub stands : provable_at new r ≡ applied (provable_at old row) goal (map (sequent_at new) ps)
    stands =
        rw (
          is,
          put_all-map (sequent_at new) row.goals goal ps,
          sequents-kept keeps row.goals known.goals,
          sequent-kept keeps row.conclusion known.conclusion,
          sequents-kept keeps row.leaves known.leaves,
        )

    pub applied_given : IsProperRule rule → Premises rule (sequent_at old s) (map (sequent_at new) ps) →
        Gives (provables_at old rows) (Apply fact goal rule) (provable_at new r)
    applied_given real premises =
        rw stands (apply fact goal rule (provable_at old row) (sequent_at old s) (map (sequent_at new) ps) is_goal.1 is_goal.2 real premises)

pub applied_known : (old new : List Tree) → Keeps old new → (row : Row) → IsKnownRow old row → (goal : ℕ) (ps : List Sequent) (r : Row) → All (IsKnown new) ps →
    r ≡ record { conclusion = row.conclusion; goals = put_all row.goals goal ps; leaves = row.leaves } → IsKnownRow new r
applied_known old new keeps row known goal ps r h is =
    let up = row_kept old new keeps row known in
    rw is (record {
      conclusion = up.conclusion;
      goals =
          All-append (IsKnown new) _ _ (All-append (IsKnown new) _ _ (All-take (IsKnown new) (goal - 1) row.goals up.goals) h)
          (All-drop (IsKnown new) goal row.goals up.goals);
      leaves = up.leaves;
    })
