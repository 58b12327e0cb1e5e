-- Faults of runs, by those of atoms and of plans.
use Rattle.std.proofs.Common.{◌≡◌, ℕ, ◌+◌, ◌<◌, List, [], ◌∷◌, length, inl, inr, refl, sym, subst}
use Rattle.std.specs.Prelude.{IsTrue, Result, Ok, Err}
use Rattle.dlk_tree.specs.Trees.{Tree}
use Rattle.dlk_calculus.specs.Pairs.{Extra}
use Rattle.dlk_calculus.specs.Places.{At}
use Rattle.dlk_calculus.specs.Provables.{Provable}
use Rattle.dlk_calculus.specs.Sequents.{Sequent}
use Rattle.dlk_calculus.specs.Steps.{Step}
use Rattle.dlk_sequent.specs.declared.sequent.Place.{Place}
use Rattle.dlk_tacsyn.specs.Tactics.{AtPlace, Atom}
use Rattle.dlk_tacsyn.specs.Rows.{is_use}
use Rattle.dlk_uses.specs.Uses.{Use, formula_at}
use Rattle.dlk_derive.specs.declared.fault.DeriveFault.{DeriveFault}
use Rattle.dlk_derive.specs.declared.fault.DeriveFault.TheVariants as plan_fault
use Rattle.dlk_derive.specs.Derives.{DeriveWhy, NoPlan}
use Rattle.dlk_derive.specs.Derives as derive
use Rattle.dlk_derive.specs.Ties.{IsDeriveFaultOf}
use Rattle.dlk_elab.specs.declared.fault.FailWhy.{FailWhy}
use Rattle.dlk_elab.specs.declared.fault.FailWhy.TheVariants as fail
use Rattle.dlk_elab.specs.declared.fault.TacFault.{TacFault}
use Rattle.dlk_elab.specs.declared.fault.TacFault.TheVariants as atom_fault
use Rattle.dlk_elab.specs.Atoms.{Asked, Instance, Asks, use_axiom, AtomSteps, uses, AtomFault}
use Rattle.dlk_elab.specs.Atoms.{asked as by_asking}
use Rattle.dlk_elab.specs.Ties.{IsTacFault, AsksOrUses}
use Rattle.dlk_elab.proofs.CallsFit.{named_use}
use Rattle.dlk_strategy.specs.declared.fault.RunFault.{RunFault}
use Rattle.dlk_strategy.specs.declared.fault.RunFault.TheVariants as run_fault
use Rattle.dlk_strategy.specs.Runs.{Progress, Fails, Once, RunDerive, no_plan, most_runs, main_goals}
use Rattle.dlk_strategy.specs.Ties.{Becomes, UnlessOver, IsBackOnFailure}
use Rattle.dlk_strategy.specs.Whys.{why_of, of_atom, of_plan}
use Rattle.dlk_strategy.proofs.States.{once_fails}

-- what holds whatever comes holds unless a run is over
pub unless_over : {T holds : Type 0} (r : Result T RunFault) → holds → UnlessOver holds r
unless_over (Ok answer) h = h
unless_over (Err (run_fault.Fails at why)) h = h
unless_over (Err (run_fault.Budget at)) h = tt
unless_over (Err run_fault.Memory) h = tt

pub back_on_failure : {back : Type 0} (r : Result ℕ RunFault) → back → IsBackOnFailure back r
back_on_failure (Ok left) h = tt
back_on_failure (Err (run_fault.Fails at why)) h = h
back_on_failure (Err (run_fault.Budget at)) h = tt
back_on_failure (Err run_fault.Memory) h = tt

-- what becomes of an atom that fails
module _ (atom : Atom) (goal fact : ℕ) (now after : Progress) (room : now.used < most_runs) (is : fact ≡ length now.rows)
    (counted : after.used ≡ now.used + 1) where
  fails : (why : FailWhy) → AtomFault now.rows fact goal atom why → Once atom goal now (Fails atom.at why after.used)
  fails why h = subst (λ n. Once atom goal now (Fails atom.at why n)) (sym counted) (once_fails atom goal fact now why room is h)

  pub atom_fails : (why : TacFault) → IsTacFault (AtomFault now.rows fact goal atom) why → Becomes (Once atom goal) now after (Err (of_atom atom.at why))
  atom_fails atom_fault.UnknownName h = fails fail.UnknownName h
  atom_fails atom_fault.NoPlace h = fails fail.NoPlace h
  atom_fails atom_fault.NoMatch h = fails fail.NoMatch h
  atom_fails (atom_fault.Step why) h = fails (fail.Step why) h
  atom_fails atom_fault.Memory h = tt

-- and of a plan that isn't there
module _ (atom : Atom) (goal : ℕ) (now after : Progress) (s : Sequent) (place : Place) (path : List ℕ) (room : now.used < most_runs)
    (there : At (main_goals now.rows) goal s) (are : atom.arguments ≡ AtPlace place path ∷ []) (counted : after.used ≡ now.used + 1) where
  fails_for : (why : DeriveWhy) → NoPlan (formula_at s place) path why → RunDerive atom goal now (Fails atom.at (why_of why) after.used)
  fails_for why h =
      subst (λ n. RunDerive atom goal now (Fails atom.at (why_of why) n)) (sym counted) (no_plan s place path why room there are h)

  pub plan_fails : (why : DeriveFault) → IsDeriveFaultOf (NoPlan (formula_at s place) path) why →
      Becomes (RunDerive atom goal) now after (Err (of_plan atom.at why))
  plan_fails plan_fault.NoPlace h = fails_for derive.NoPlace h
  plan_fails plan_fault.WrongShape h = fails_for derive.WrongShape h
  plan_fails plan_fault.NoMatch h = fails_for derive.NoMatch h
  plan_fails plan_fault.Memory h = tt

-- a run's fault is want of memory only where that of its atom is
pub memory_of_atom : (at : ℕ) (why : TacFault) → of_atom at why ≡ run_fault.Memory → why ≡ atom_fault.Memory
memory_of_atom at atom_fault.UnknownName is = absurd (cc is)
memory_of_atom at atom_fault.NoPlace is = absurd (cc is)
memory_of_atom at atom_fault.NoMatch is = absurd (cc is)
memory_of_atom at (atom_fault.Step why) is = absurd (cc is)
memory_of_atom at atom_fault.Memory is = refl

-- or that of its plan
pub memory_of_plan : (at : ℕ) (why : DeriveFault) → of_plan at why ≡ run_fault.Memory → why ≡ plan_fault.Memory
memory_of_plan at plan_fault.NoPlace is = absurd (cc is)
memory_of_plan at plan_fault.WrongShape is = absurd (cc is)
memory_of_plan at plan_fault.NoMatch is = absurd (cc is)
memory_of_plan at plan_fault.Memory is = refl

-- an atom that asks for an instance uses an axiom
asks_by_use : (rows fact goal : ℕ) (s : Sequent) (atom : Atom) (u : Use) (x : Extra) (e : Tree) (wanted : Asked) → Asks rows fact goal s atom wanted →
    wanted ≡ Instance u x e → IsTrue (is_use atom.name)
asks_by_use rows fact goal s atom u x e _ (use_axiom v f t y is there may match) q = named_use atom.name v.direction is.names.0
asks_by_use rows fact goal s atom u x e _ asks q = absurd (cc q)

-- an atom that gives steps asks for them, or uses an axiom
pub steps_are_asked : (rows : List Provable) (fact goal : ℕ) (atom : Atom) (steps : List Step) (after : List Provable) →
    AtomSteps rows fact goal atom steps after → AsksOrUses rows fact goal atom
steps_are_asked rows fact goal atom steps after (by_asking s is asks takes) = inl (record { s = s; is_goal = is; steps = steps; asks = asks })
steps_are_asked rows fact goal atom _ after (uses s used extra e between rest is asks first behind then_on) =
    inr (asks_by_use (length rows) fact goal s atom used extra e (Instance used extra e) asks refl)
