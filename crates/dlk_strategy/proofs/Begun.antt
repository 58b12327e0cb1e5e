-- A run on a model, from the step that states it.
use Rattle.std.proofs.Common.{◌≡◌, ℕ, List, [], ◌∷◌, map, Ok, Err, sym, ap, subst, ◌∙◌, arith}
use Rattle.std.specs.List.{All}
use Rattle.std.proofs.lemmas.List.Elements.{All-nil, All-cons}
use Rattle.dlk_tree.specs.Trees.{Tree}
use Rattle.dlk_store.specs.declared.Id.{Id}
use Rattle.dlk_store.specs.Stores.{Keeps, IsId, tree}
use Rattle.dlk_calculus.specs.declared.reason.Reason.{Reason}
use Rattle.dlk_calculus.specs.Limits.{IsSmall, IsShallow}
use Rattle.dlk_calculus.specs.Sequents.{alone_right, IsFormula}
use Rattle.dlk_calculus.specs.Provables.{Provable, started}
use Rattle.dlk_calculus.specs.Steps.{Start, Against, Fault, Adds}
use Rattle.dlk_sequent.specs.declared.sequent.Sequent.{Sequent}
use Rattle.dlk_sequent.specs.Sequents.{IsKnown}
use Rattle.dlk_rules.specs.declared.step.Step.{Step}
use Rattle.dlk_rules.specs.declared.step.Step.TheVariants as step
use Rattle.dlk_rules.specs.Steps.{step_at, HasKnownIds}
use Rattle.dlk_kernel.specs.Kernel.{State, facts}
use Rattle.dlk_kernel.proofs.Starting.{none_against, no_facts}
use Rattle.dlk_tacsyn.specs.Tactics.{Tactic}
use Rattle.dlk_strategy.specs.declared.fault.RunFault.{RunFault}
use Rattle.dlk_strategy.specs.declared.fault.RunFault.TheVariants as fault
use Rattle.dlk_strategy.specs.Runs.{Progress, Outcome, Done, Fails, Budget, Runs, RunsPlain}
use Rattle.dlk_strategy.specs.Ties.{Becomes, IsRunFaultOf}
use Rattle.dlk_strategy.proofs.Starting.{starts, one_row}

-- what a formula may be on which a strategy runs
pub record IsModel (formula : Tree) : Type 0 where
  pub formed : IsFormula formula
  pub small : IsSmall formula
  pub shallow : IsShallow formula

abbrev pub alone : Id → Sequent
alone model = record { ante = []; succ = model ∷ [] }

-- the kernel takes the step
pub not_refused : {S : Type 0} (trees : S → List Tree) (k : State S) (s : Sequent) (model : Id) (why : Reason) → k.rows ≡ [] → s ≡ alone model →
    IsModel (tree (trees k.store) model) →
    Fault (facts trees k) (step_at (trees k.store) (step.Start s)) why → ⊥
not_refused trees k s model why none is m fault =
    let by_rows = subst (λ (rows : List Provable). Against rows (step_at (trees k.store) (step.Start s)) why) (no_facts trees k none) fault.against in
    none_against (tree (trees k.store) model) why m.formed m.small m.shallow
    (subst (λ (t : Sequent). Against [] (step_at (trees k.store) (step.Start t)) why) is by_rows)

-- and its row is that of the formula
pub begun_rows : {S : Type 0} (trees : S → List Tree) (k : State S) (after : List Provable) (s : Sequent) (model : Id) → k.rows ≡ [] → s ≡ alone model →
    Adds (facts trees k) (step_at (trees k.store) (step.Start s)) after → after ≡ started (alone_right (tree (trees k.store) model)) ∷ []
begun_rows trees k after s model none is adds =
    let by_rows = subst (λ (rows : List Provable). Adds rows (step_at (trees k.store) (step.Start s)) after) (no_facts trees k none) adds in
    one_row (alone_right (tree (trees k.store) model)) after (subst (λ (t : Sequent). Adds [] (step_at (trees k.store) (step.Start t)) after) is by_rows)

pub begun_steps : (old new : List Tree) (items : List Step) (s : Sequent) (model : Id) → Keeps old new → IsId old model → s ≡ alone model →
    items ≡ step.Start s ∷ [] →
    map (step_at new) items ≡ Start (alone_right (tree old model)) ∷ []
begun_steps old new items s model keeps known is made =
    ap (map (step_at new)) made ∙ ap (λ (t : Sequent). step_at new (step.Start t) ∷ []) is
    ∙ ap (λ (t : Tree). Start (alone_right t) ∷ []) (keeps.same model known)

pub begun_known : (old new : List Tree) (items : List Step) (s : Sequent) (model : Id) → Keeps old new → IsId old model → s ≡ alone model →
    items ≡ step.Start s ∷ [] →
    All (HasKnownIds new) items
begun_known old new items s model keeps known is made =
    let id : IsId new model = omega (arith, keeps.known, known) in
    let sequent : IsKnown new (alone model) = record { ante = All-nil (IsId new); succ = All-cons (IsId new) model [] id (All-nil (IsId new)) } in
    let one : HasKnownIds new (step.Start s) = subst (λ (t : Sequent). IsKnown new t) (sym is) sequent in
    subst (All (HasKnownIds new)) (sym made) (All-cons (HasKnownIds new) (step.Start s) [] one (All-nil (HasKnownIds new)))

-- what is made so far
abbrev pub begun : Tree → Progress
begun formula = record { steps = Start (alone_right formula) ∷ []; rows = started (alone_right formula) ∷ []; used = 0 }

module _ (t now_t : Tactic) (formula : Tree) (before : Progress) (m : IsModel formula) (same : now_t ≡ t) (is : before ≡ begun formula) where
  model_runs : (o : Outcome) → Runs now_t 1 1 before o → RunsPlain t formula o
  model_runs o run = record {
    provable = started (alone_right formula);
    start = starts formula m.formed m.small m.shallow;
    run = subst (λ (b : Progress). Runs t 1 1 b o) is (subst (λ (u : Tactic). Runs u 1 1 before o) same run);
  }

  pub model_done : (after : Progress) (left : ℕ) → Becomes (Runs now_t 1 1) before after (Ok left) → RunsPlain t formula (Done after left)
  model_done after left run = model_runs (Done after left) run

  pub model_fault : (after : Progress) (e : RunFault) → Becomes (Runs now_t 1 1) before after (Err e) → IsRunFaultOf (RunsPlain t formula) e
  model_fault after (fault.Fails at why) run = (after.used, model_runs (Fails at why after.used) run)
  model_fault after (fault.Budget at) run = model_runs (Budget at) run
  model_fault after fault.Memory run = tt
