-- One thing becomes of a run of an atom.
use Rattle.std.proofs.Common.{◌≡◌, ℕ, ◌+◌, ◌++◌, List, length, refl, ap, arith}
use Rattle.dlk_calculus.specs.Provables.{Provable}
use Rattle.dlk_calculus.specs.Steps.{Step}
use Rattle.dlk_tacsyn.specs.Tactics.{Atom}
use Rattle.dlk_elab.specs.declared.fault.FailWhy.{FailWhy}
use Rattle.dlk_elab.specs.Atoms.{AtomSteps, AtomFault}
use Rattle.dlk_strategy.specs.Runs.{Done, Fails, Once, steps, fault, spent, main_goals}
use Rattle.dlk_strategy.proofs.OneFate.{IsOne}

module _ (one_steps : (rows : List Provable) (fact goal : ℕ) (atom : Atom) (s t : List Step) (a b : List Provable) → AtomSteps rows fact goal atom s a →
    AtomSteps rows fact goal atom t b → (s ≡ t) × (a ≡ b))
    (one_fault : (rows : List Provable) (fact goal : ℕ) (atom : Atom) (why other : FailWhy) → AtomFault rows fact goal atom why →
    AtomFault rows fact goal atom other → why ≡ other)
    (not_both : (rows : List Provable) (fact goal : ℕ) (atom : Atom) (s : List Step) (a : List Provable) (why : FailWhy) → AtomSteps rows fact goal atom s a →
    AtomFault rows fact goal atom why → ⊥) where
  pub one_once : (atom : Atom) (goal : ℕ) → IsOne (Once atom goal)
  one_once atom goal now _ _ (steps {steps = s} {rows = a} {left} room made n) (steps {steps = t} {rows = b} {left = left'} room' made' n') =
      let same = one_steps now.rows (length now.rows) goal atom s t a b made made' in
      let goals = ap (λ (rows : List Provable). length (main_goals rows)) same.1 in
      let e : left ≡ left' = omega (arith, n, n', goals) in
      λ i. Done (record { steps = now.steps ++ same.0 i; rows = same.1 i; used = now.used + 1 }) (e i)
  one_once atom goal now _ _ (steps {steps = s} {rows = a} {left} room made n) (fault {why} room' h) =
      absurd (not_both now.rows (length now.rows) goal atom s a why made h)
  one_once atom goal now _ _ (steps {steps = s} {rows = a} {left} room made n) (spent full) = absurd (omega (arith, room, full))
  one_once atom goal now _ _ (fault {why} room' h) (steps {steps = s} {rows = a} {left} room made n) =
      absurd (not_both now.rows (length now.rows) goal atom s a why made h)
  one_once atom goal now _ _ (fault {why} room h) (fault {why = other} room' h') =
      ap (λ w. Fails atom.at w (now.used + 1)) (one_fault now.rows (length now.rows) goal atom why other h h')
  one_once atom goal now _ _ (fault {why} room h) (spent full) = absurd (omega (arith, room, full))
  one_once atom goal now _ _ (spent full) (steps {steps = s} {rows = a} {left} room made n) = absurd (omega (arith, room, full))
  one_once atom goal now _ _ (spent full) (fault {why} room h) = absurd (omega (arith, room, full))
  one_once atom goal now _ _ (spent full) (spent full') = refl
