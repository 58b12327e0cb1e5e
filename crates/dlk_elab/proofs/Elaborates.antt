-- An atom's steps on a kernel.
use Rattle.std.proofs.Common.{◌≡◌, ℕ, ◌-◌, ◌<◌, ◌≤◌, List, [], ◌∷◌, map, length, get_or, sym, ap, subst, ◌∙◌, refl, arith}
use Rattle.std.specs.List.{All}
use Rattle.std.proofs.lemmas.List.{length-map}
use Rattle.std.proofs.lemmas.List.Elements.{All-head, All-tail, All-nil, All-cons, All-append}
use Rattle.dlk_tree.specs.Trees.{Tree}
use Rattle.dlk_calculus.specs.Places.{At}
use Rattle.dlk_calculus.specs.Sequents.{Sequent as TreeSequent}
use Rattle.dlk_calculus.specs.Provables.{Provable}
use Rattle.dlk_calculus.specs.Limits.{most_goals}
use Rattle.dlk_calculus.specs.Limited.{HasFewFormulas, IsLimitedSequent, IsLimited}
use Rattle.dlk_calculus.specs.Steps.{Step as TreeStep, IsGoal, IsProper, Gives, start, use_axiom, use_rule, leaf, apply, merge, substitute, rename}
use Rattle.dlk_calculus.proofs.PlaceLaws.{At-map, At_All, At_place, At_read}
use Rattle.dlk_sequent.specs.declared.sequent.Sequent.{Sequent}
use Rattle.dlk_sequent.specs.Sequents.{sequent_at}
use Rattle.dlk_rules.specs.declared.step.Step.{Step}
use Rattle.dlk_rules.specs.Steps.{step_at, HasKnownIds}
use Rattle.dlk_tacsyn.specs.Tactics.{Atom}
use Rattle.dlk_kernel.specs.declared.fault.StepFault.{StepFault}
use Rattle.dlk_kernel.specs.declared.fault.StepFault.TheVariants as step_fault
use Rattle.dlk_kernel.specs.Faults.{IsStepFault}
use Rattle.dlk_kernel.specs.Taken.{Takes, none, more}
use Rattle.dlk_elab.specs.declared.fault.TacFault.{TacFault}
use Rattle.dlk_elab.specs.declared.fault.TacFault.TheVariants as fault
use Rattle.dlk_elab.specs.Atoms.{FailWhy, UnknownName, NoPlace, NoMatch, AtStep, HasGoalAt, Steps, Refused, Asks, AtomSteps, uses, FirstFault}
use Rattle.dlk_elab.specs.Atoms.{AtomFault, asks_none, not_taken, instance_of}
use Rattle.dlk_elab.specs.Atoms.{asked as by_asking}
use Rattle.dlk_elab.specs.Ties.{IsTacFault, of_step, AreAsked, AsksSome, AreMade}

pub goal_within : (trees : List Tree) (rows : List Provable) (fact goal : ℕ) (goals : List Sequent) → HasGoalAt rows fact goal →
    ((p : Provable) → At rows fact p → p.goals ≡ map (sequent_at trees) goals) → goal - 1 < length goals
goal_within trees rows fact goal goals there are =
    let p : Provable = there.1.0 in
    let all : p.goals ≡ map (sequent_at trees) goals = are p there.1.1 in
    let place = At_place p.goals goal there.0 there.1.2 in
    let n = ap length all ∙ length-map goals (sequent_at trees) in
    omega (arith, n, place.0, place.1)

pub goal_read : (trees : List Tree) (rows : List Provable) (fact goal : ℕ) (goals : List Sequent) (s : Sequent) → HasGoalAt rows fact goal →
    ((p : Provable) → At rows fact p → p.goals ≡ map (sequent_at trees) goals) → s ≡ get_or goals (goal - 1) s → IsGoal rows fact goal (sequent_at trees s)
goal_read trees rows fact goal goals s there are read =
    let p : Provable = there.1.0 in
    let all : p.goals ≡ map (sequent_at trees) goals = are p there.1.1 in
    let place = At_place p.goals goal there.0 there.1.2 in
    let n = ap length all ∙ length-map goals (sequent_at trees) in
    let here : At goals goal s = At_read goals goal s (place.0, omega (arith, n, place.1)) read in
    (p, there.1.1, subst (λ ts. At ts goal (sequent_at trees s)) (sym all) (At-map (sequent_at trees) goals goal s here))

-- it has few formulas
pub few_formulas : (rows : List Provable) (fact goal : ℕ) (s : TreeSequent) → All IsLimited rows → IsGoal rows fact goal s → HasFewFormulas s
few_formulas rows fact goal s limited is =
    let row : IsLimited is.0 = At_All IsLimited rows fact is.0 limited is.1 in
    let one : IsLimitedSequent s = At_All IsLimitedSequent is.0.goals goal s row.goals is.2 in
    one.few

-- a goal's number is small
pub goal_small : (rows : List Provable) (fact goal : ℕ) → All IsLimited rows → HasGoalAt rows fact goal → goal ≤ most_goals
goal_small rows fact goal limited there =
    let row : IsLimited there.1.0 = At_All IsLimited rows fact there.1.0 limited there.1.1 in
    let place = At_place there.1.0.goals goal there.0 there.1.2 in
    omega (arith, place.1, row.few_goals)

-- steps stand for the same in a store that has grown
pub steps_same : (old new : List Tree) → ((step : Step) → HasKnownIds old step → step_at new step ≡ step_at old step) → (plan : List Step) →
    All (HasKnownIds old) plan → map (step_at new) plan ≡ map (step_at old) plan
steps_same old new same [] known = refl
steps_same old new same (x ∷ xs) known =
    let first = same x (All-head (HasKnownIds old) x xs known) in
    let rest = steps_same old new same xs (All-tail (HasKnownIds old) x xs known) in
    λ i. first i ∷ rest i

-- and their ids are those of that one
pub known_later : (old new : List Tree) → ((step : Step) → HasKnownIds old step → HasKnownIds new step) → (plan : List Step) → All (HasKnownIds old) plan →
    All (HasKnownIds new) plan
known_later old new later [] known = All-nil (HasKnownIds new)
known_later old new later (x ∷ xs) known =
    All-cons (HasKnownIds new) x xs (later x (All-head (HasKnownIds old) x xs known)) (known_later old new later xs (All-tail (HasKnownIds old) x xs known))

-- what a fault says, weakened
pub tac_fault_weaker : (P R : FailWhy → Type 0) → ((why : FailWhy) → P why → R why) → (e : TacFault) → IsTacFault P e → IsTacFault R e
tac_fault_weaker P R weaker fault.UnknownName h = weaker UnknownName h
tac_fault_weaker P R weaker fault.NoPlace h = weaker NoPlace h
tac_fault_weaker P R weaker fault.NoMatch h = weaker NoMatch h
tac_fault_weaker P R weaker (fault.Step why) h = weaker (AtStep why) h
tac_fault_weaker P R weaker fault.Memory h = tt

module _ (rows : List Provable) (count fact goal : ℕ) (atom : Atom) (s : TreeSequent) (counted : count ≡ length rows) (is_goal : IsGoal rows fact goal s) where
  pub plan_fault : (e : TacFault) → IsTacFault (λ why. Asks count fact goal s atom (Refused why)) e → IsTacFault (AtomFault rows fact goal atom) e
  plan_fault e h =
      tac_fault_weaker (λ why. Asks count fact goal s atom (Refused why)) (AtomFault rows fact goal atom)
      (λ why asks. asks_none s is_goal (subst (λ n. Asks n fact goal s atom (Refused why)) counted asks)) e h

  pub asks_some : (steps : List TreeStep) → Asks count fact goal s atom (Steps steps) → AsksSome rows fact goal atom
  asks_some steps asks = record {
    s = s;
    is_goal = is_goal;
    steps = steps;
    asks = subst (λ n. Asks n fact goal s atom (Steps steps)) counted asks;
  }

  pub are_asked : (trees : List Tree) (steps : List Step) → Asks count fact goal s atom (Steps (map (step_at trees) steps)) → All (HasKnownIds trees) steps →
      AreAsked rows fact goal atom trees steps
  are_asked trees steps asks known = record {
    s = s;
    is_goal = is_goal;
    asks = subst (λ n. Asks n fact goal s atom (Steps (map (step_at trees) steps))) counted asks;
    known = known;
  }

module _ (rows : List Provable) (fact goal : ℕ) (atom : Atom) (trees : List Tree) (steps : List Step) (asked : AreAsked rows fact goal atom trees steps) where
  pub fault_of_step : (e : StepFault) → IsStepFault (FirstFault rows (map (step_at trees) steps)) e → IsTacFault (AtomFault rows fact goal atom) (of_step e)
  fault_of_step (step_fault.Refused why) h = not_taken asked.s (map (step_at trees) steps) asked.is_goal asked.asks h
  fault_of_step step_fault.Memory h = tt

  pub steps_made : (new : List Tree) (after : List Provable) → map (step_at new) steps ≡ map (step_at trees) steps → All (HasKnownIds new) steps →
      Takes rows (map (step_at trees) steps) after → AreMade rows fact goal atom new steps after
  steps_made new after same known takes = record {
    made = subst (λ xs. AtomSteps rows fact goal atom xs after) (sym same) (asked' takes);
    known = known;
  }
    where
      asked' : Takes rows (map (step_at trees) steps) after → AtomSteps rows fact goal atom (map (step_at trees) steps) after
      asked' taken = by_asking asked.s asked.is_goal asked.asks taken

-- each step that is taken is proper
pub gives_proper : (rows : List Provable) (step : TreeStep) (p : Provable) → Gives rows step p → IsProper step
gives_proper rows _ _ (start s h) = tt
gives_proper rows _ _ (use_axiom name a h) = tt
gives_proper rows _ _ (use_rule name r h) = tt
gives_proper rows _ _ (leaf s h a) = tt
gives_proper rows _ _ (apply fact goal rule p s premises at there proper h) = proper
gives_proper rows _ _ (merge fact goal by p q new a b there news) = tt
gives_proper rows _ _ (substitute fact pairs p q at made well free h) = made
gives_proper rows _ _ (rename fact x y p at hx hy) = (hx, hy)

pub taken_proper : (rows after : List Provable) (steps : List TreeStep) → Takes rows steps after → All IsProper steps
taken_proper rows _ _ none = All-nil IsProper
taken_proper rows _ _ (more {steps} {mid} {step} {p} taken is) =
    All-append IsProper steps (step ∷ []) (taken_proper rows mid steps taken)
    (All-cons IsProper step [] (gives_proper mid step p is.given) (All-nil IsProper))

pub made_proper : (rows after : List Provable) (fact goal : ℕ) (atom : Atom) (steps : List TreeStep) → AtomSteps rows fact goal atom steps after →
    All IsProper steps
made_proper rows after fact goal atom _ (by_asking s is_goal asks takes) = taken_proper rows after _ takes
made_proper rows after fact goal atom _ (uses s used extra e between rest is_goal asks first finishes then_on) =
    All-append IsProper (instance_of (length rows) used extra) rest (taken_proper rows between _ first) (taken_proper between after rest then_on)
