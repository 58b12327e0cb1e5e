-- Tries of places, one after another.
use Rattle.std.proofs.Common.{◌≡◌, ℕ, suc, ◌+◌, ◌-◌, ◌≤◌, ◌<◌, List, map, take, length, refl, sym, ap, subst, ◌∙◌, arith}
use Rattle.std.specs.List.{All}
use Rattle.std.proofs.Math.Seq.{take-length}
use Rattle.dlk_tree.specs.Trees.{Tree}
use Rattle.dlk_store.specs.Stores.{Keeps}
use Rattle.dlk_calculus.specs.Places.{At}
use Rattle.dlk_calculus.specs.Sequents.{Sequent}
use Rattle.dlk_rules.specs.declared.arguments.Side.{Side}
use Rattle.dlk_rules.specs.Steps.{step_at, HasKnownIds}
use Rattle.dlk_sequent.proofs.Kept.{map-agree}
use Rattle.std.proofs.lemmas.List.Elements.{All-weaker}
use Rattle.dlk_kernel.specs.Kernel.{State, facts}
use Rattle.dlk_tacsyn.specs.Tactics.{Atom}
use Rattle.dlk_tacsyn.specs.declared.tactic.Arg.{Arg}
use Rattle.dlk_tacsyn.specs.declared.tactic.Arg.TheVariants as arg
use Rattle.dlk_tacsyn.specs.declared.tactic.Atom.{Atom as GivenAtom}
use Rattle.dlk_tacsyn.specs.Tactics.{GivenFormula, GivenTerm, GivenExtra}
use Rattle.dlk_tacsyn.specs.Ties.{argument_at, ArgumentIsKnown, atom_at, AtomIsKnown}
use Rattle.dlk_tacsyn.proofs.Kept.{argument_known}
use Rattle.dlk_elab.specs.declared.fault.FailWhy.{FailWhy}
use Rattle.dlk_elab.specs.declared.fault.FailWhy.TheVariants.{NoPlace}
use Rattle.dlk_elab.proofs.UseFound.{pairs_kept}
use Rattle.dlk_strategy.specs.declared.trace.Trace.{Trace}
use Rattle.dlk_strategy.specs.Runs.{Progress, Outcome, Done, Fails, Budget, Follow, done, fails, spent, Ends, Once, placed, formulas, Tries, TriesAll}
use Rattle.dlk_strategy.specs.Runs.{main_goals}
use Rattle.dlk_strategy.specs.Ties.{now, Extends, IsBack}
use Rattle.dlk_strategy.proofs.States.{steps_same, steps_known, same_extends}

module _ (old new : List Tree) (keeps : Keeps old new) where
  argument_same : (a : Arg) → ArgumentIsKnown old a → argument_at new a ≡ argument_at old a
  argument_same (arg.At place path) h = refl
  argument_same arg.AnyLeft h = refl
  argument_same arg.AnyRight h = refl
  argument_same (arg.Word name) h = refl
  argument_same (arg.Formula id) h = ap GivenFormula (keeps.same id h)
  argument_same (arg.Term id) h = ap GivenTerm (keeps.same id h)
  argument_same (arg.With extra) h = ap (λ pairs. GivenExtra (record { renames = extra.renames; pairs = pairs })) (pairs_kept old new keeps extra.pairs h)

  pub atom_same : (atom : GivenAtom) → AtomIsKnown old atom → atom_at new atom ≡ atom_at old atom
  atom_same atom h =
      let same = map-agree (argument_at new) (argument_at old) atom.args
      (All-weaker (ArgumentIsKnown old) (λ a. argument_at new a ≡ argument_at old a) argument_same atom.args h) in
      λ i. record { name = atom.name; arguments = same i; at = atom.at }

  pub atom_known : (atom : GivenAtom) → AtomIsKnown old atom → AtomIsKnown new atom
  atom_known atom h = All-weaker (ArgumentIsKnown old) (ArgumentIsKnown new) (argument_known old new keeps) atom.args h

-- what is left where all was taken back
pub back_now : {S : Type 0} (trees : S → List Tree) (k : State S) (t : Trace) (k' : State S) (t' : Trace) → Keeps (trees k.store) (trees k'.store) →
    All (HasKnownIds (trees k.store)) t.steps.items → IsBack trees k t k' t' →
    now trees k' t' ≡ record { steps = map (step_at (trees k.store)) t.steps.items; rows = facts trees k; used = t'.used }
back_now trees k t k' t' keeps known back =
    let same = ap (map (step_at (trees k'.store))) back.steps ∙ steps_same (trees k.store) (trees k'.store) keeps t.steps.items known in
    let rows = back.rows.provables in
    λ i. record { steps = same i; rows = rows i; used = t'.used }

pub back_known : {S : Type 0} (trees : S → List Tree) (k : State S) (t : Trace) (k' : State S) (t' : Trace) → Keeps (trees k.store) (trees k'.store) →
    All (HasKnownIds (trees k.store)) t.steps.items → IsBack trees k t k' t' → All (HasKnownIds (trees k'.store)) t'.steps.items
back_known trees k t k' t' keeps known back = rw back.steps (steps_known (trees k.store) (trees k'.store) keeps t.steps.items known)

pub back_extends : {S : Type 0} (trees : S → List Tree) (k : State S) (t : Trace) (k' : State S) (t' : Trace) → Keeps (trees k.store) (trees k'.store) →
    All (HasKnownIds (trees k.store)) t.steps.items → IsBack trees k t k' t' → Extends trees k t k' t'
back_extends trees k t k' t' keeps known back = record {
  rows = same_extends trees k k' back.rows;
  steps = ap (take (length t.steps.items)) back.steps ∙ take-length t.steps.items;
  known = back_known trees k t k' t' keeps known back;
  counted = back.counted;
  within = back.within;
}

pub back_then_back : {S : Type 0} (trees : S → List Tree) (k : State S) (t : Trace) (k' : State S) (t' : Trace) (k'' : State S) (t'' : Trace) →
    IsBack trees k t k' t' →
    IsBack trees k' t' k'' t'' → IsBack trees k t k'' t''
back_then_back trees k t k' t' k'' t'' a b = record {
  rows = record { ids = b.rows.ids ∙ a.rows.ids; provables = b.rows.provables ∙ a.rows.provables };
  steps = b.steps ∙ a.steps;
  counted = omega (arith, a.counted, b.counted);
  within = b.within;
}

-- what becomes of the places from this one on is what becomes of all
abbrev pub Leads : Atom → Side → ℕ → ℕ → FailWhy → Progress → Progress → Type 0
Leads atom on goal tried why first here = (s : Sequent) → At (main_goals first.rows) goal s → (o : Outcome) →
    Tries atom goal (length (formulas on s) - tried) (tried + 1) why here o → Tries atom goal (length (formulas on s)) 1 NoPlace first o

pub leads_first : (atom : Atom) (on : Side) (goal : ℕ) (first : Progress) → Leads atom on goal 0 NoPlace first first
leads_first atom on goal first s stands o t = let e : length (formulas on s) - 0 ≡ length (formulas on s) = omega arith in
    subst (λ n. Tries atom goal n 1 NoPlace first o) e t

one_more : (atom : Atom) (goal n tried : ℕ) (why : FailWhy) (here : Progress) (o : Outcome) → tried < n →
    Follow (Once (placed (tried + 1) atom) goal) Ends (λ at last. Tries atom goal (n - (tried + 1)) (tried + 1 + 1) last) here o →
    Tries atom goal (n - tried) (tried + 1) why here o
one_more atom goal n tried why here o less f =
    let e : suc (n - (tried + 1)) ≡ n - tried = omega (arith, less) in
    subst (λ k. Tries atom goal k (tried + 1) why here o) e f

-- a try that fails
pub leads_on : (atom : Atom) (on : Side) (goal tried places at used : ℕ) (why last : FailWhy) (first here next : Progress) → tried < places →
    ((s : Sequent) → At (main_goals first.rows) goal s → places ≡ length (formulas on s)) →
    Once (placed (tried + 1) atom) goal here (Fails at last used) → next ≡ record { steps = here.steps; rows = here.rows; used = used } →
    Leads atom on goal tried why first here → Leads atom on goal (tried + 1) last first next
leads_on atom on goal tried places at used why last first here next less count once same leads s stands o t =
    let few : tried < length (formulas on s) = omega (arith, less, count s stands) in
    let back = subst (λ (p : Progress). Tries atom goal (length (formulas on s) - (tried + 1)) (tried + 1 + 1) last p o) same t in
    leads s stands o (one_more atom goal (length (formulas on s)) tried why here o few (fails once back))

-- and one that doesn't
pub leads_done : (atom : Atom) (on : Side) (goal tried places left : ℕ) (why : FailWhy) (first here made : Progress) (s : Sequent) → tried < places →
    ((s : Sequent) → At (main_goals first.rows) goal s → places ≡ length (formulas on s)) → At (main_goals first.rows) goal s →
    Once (placed (tried + 1) atom) goal here (Done made left) → Leads atom on goal tried why first here → TriesAll atom on goal first (Done made left)
leads_done atom on goal tried places left why first here made s less count stands once leads =
    let few : tried < length (formulas on s) = omega (arith, less, count s stands) in
    (s, stands, leads s stands (Done made left) (one_more atom goal (length (formulas on s)) tried why here (Done made left) few (done once refl)))

pub leads_over : (atom : Atom) (on : Side) (goal tried places at : ℕ) (why : FailWhy) (first here : Progress) (s : Sequent) → tried < places →
    ((s : Sequent) → At (main_goals first.rows) goal s → places ≡ length (formulas on s)) → At (main_goals first.rows) goal s →
    Once (placed (tried + 1) atom) goal here (Budget at) → Leads atom on goal tried why first here → TriesAll atom on goal first (Budget at)
leads_over atom on goal tried places at why first here s less count stands once leads =
    let few : tried < length (formulas on s) = omega (arith, less, count s stands) in
    (s, stands, leads s stands (Budget at) (one_more atom goal (length (formulas on s)) tried why here (Budget at) few (spent once)))

-- no place is left
pub leads_fail : (atom : Atom) (on : Side) (goal tried places : ℕ) (why : FailWhy) (first here : Progress) (s : Sequent) → places ≤ tried →
    ((s : Sequent) → At (main_goals first.rows) goal s → places ≡ length (formulas on s)) → At (main_goals first.rows) goal s →
    Leads atom on goal tried why first here → TriesAll atom on goal first (Fails atom.at why here.used)
leads_fail atom on goal tried places why first here s end count stands leads =
    let e : 0 ≡ length (formulas on s) - tried = omega (arith, end, count s stands) in
    let ends : Fails atom.at why here.used ≡ Fails atom.at why here.used = refl in
    (s, stands, leads s stands (Fails atom.at why here.used) (subst (λ n. Tries atom goal n (tried + 1) why here (Fails atom.at why here.used)) e ends))
