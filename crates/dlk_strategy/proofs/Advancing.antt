-- The count of a run rises, and stays within its limit. What the steps of atoms keep it keeps, and it fails for the reasons of its parts.
use Rattle.std.proofs.Common.{◌≡◌, ℕ, zero, suc, ◌+◌, ◌≤◌, ◌<◌, Bool, true, false, List, [], ◌∷◌, ◌++◌, map, length, Option, Some, None, refl, sym}
use Rattle.std.proofs.Common.{subst, arith}
use Rattle.dlk_calculus.specs.Provables.{Provable}
use Rattle.dlk_calculus.specs.Steps.{Step}
use Rattle.dlk_derive.specs.Derives.{DeriveWhy, use_of}
use Rattle.dlk_rules.specs.declared.arguments.Side.{Side}
use Rattle.dlk_tacsyn.specs.Tactics.{Atom, Tactic, Choice, Sequence, Branch, Repeat, One, Tactics, no_parts, part, count}
use Rattle.dlk_elab.specs.Atoms.{AtomSteps, AtomFault}
use Rattle.dlk_elab.specs.declared.fault.FailWhy.{FailWhy}
use Rattle.dlk_elab.specs.declared.fault.FailWhy.TheVariants.{WrongCount, NoPlace}
use Rattle.dlk_strategy.specs.Runs.{Progress, Outcome, Done, Fails, Budget, Fate, Run, Follow, done, fails, spent, Ends, FailsAt, Each, OnEach, Again}
use Rattle.dlk_strategy.specs.Runs.{Once, most_runs}
use Rattle.dlk_strategy.specs.Runs.{steps, fault, side, placed, formulas, Tries, RunAtomOn, RunAtom, Branched, as_many, another_count, Runs}
use Rattle.dlk_strategy.specs.Runs.{Alternatives, InTurn, OnOwn}
use Rattle.dlk_strategy.specs.Runs.{OneByOne, RunDerive, plans, no_plan, RunNamedBy, RunNamed, is_derive}
use Rattle.dlk_strategy.specs.Runs.{spent as once_spent}
use Rattle.dlk_strategy.specs.Whys.{why_of}

-- a count rises to another within the limit
pub record Rises (before after : ℕ) : Type 0 where
  pub rises : before ≤ after
  pub within : before ≤ most_runs → after ≤ most_runs

no_rise : (n : ℕ) → Rises n n
no_rise n = record { rises = omega arith; within = λ h. h }

one_run : (n : ℕ) → n < most_runs → Rises n (n + 1)
one_run n room = record { rises = omega arith; within = λ h. omega (arith, room) }

rises_on : (a b c : ℕ) → Rises a b → Rises b c → Rises a c
rises_on a b c x y = record { rises = omega (arith, x.rises, y.rises); within = λ h. y.within (x.within h) }

-- Holds is of what is made, and Allowed of why a run fails. Counting runs keeps the first, and so do the steps of an atom; its faults are allowed, and
-- so is why a branch has another count, why a locator has no place, and why there is no plan.
module _ (Holds : Progress → Type 0) (Allowed : FailWhy → Type 0)
    (recounted : (now : Progress) (used : ℕ) → now.used ≤ used → Holds now → Holds (record now { used = used }))
    (by_atom : (now : Progress) (goal : ℕ) (atom : Atom) (new : List Step) (rows : List Provable) → now.used < most_runs → Holds now →
    AtomSteps now.rows (length now.rows) goal atom new rows → Holds (record { steps = now.steps ++ new; rows = rows; used = now.used + 1 }))
    (by_fault : (now : Progress) (goal : ℕ) (atom : Atom) (why : FailWhy) → now.used < most_runs → Holds now →
    AtomFault now.rows (length now.rows) goal atom why → Allowed why)
    (wrong_count : Allowed WrongCount) (no_place : Allowed NoPlace) (unplanned : (why : DeriveWhy) → Allowed (why_of why)) where
  pub record Makes (now made : Progress) : Type 0 where
    pub counted : Rises now.used made.used
    pub holds : Holds made

  pub record Refuses (now : Progress) (why : FailWhy) (used : ℕ) : Type 0 where
    pub counted : Rises now.used used
    pub allowed : Allowed why

  abbrev pub Advances : Progress → Outcome → Type 0
  Advances now (Done made left) = Makes now made
  Advances now (Fails at why used) = Refuses now why used
  Advances now (Budget at) = Unit {0}

  abbrev pub IsAdvance : Fate → Type 0
  IsAdvance fate = (now : Progress) (o : Outcome) → Holds now → fate now o → Advances now o

  advances_on : (now : Progress) (used : ℕ) (mid : Progress) (o : Outcome) → mid.used ≡ used → Rises now.used used → Advances mid o → Advances now o
  advances_on now used mid (Done made left) e a b =
      let first : Rises now.used mid.used = subst (Rises now.used) (sym e) a in
      record { counted = rises_on now.used mid.used made.used first b.counted; holds = b.holds }
  advances_on now used mid (Fails at why more) e a b =
      let first : Rises now.used mid.used = subst (Rises now.used) (sym e) a in
      record { counted = rises_on now.used mid.used more first b.counted; allowed = b.allowed }
  advances_on now used mid (Budget at) e a b = tt

  advance_end : (left : ℕ) → IsAdvance (Ends left)
  advance_end left now o holds e =
      let here : Advances now (Done now left) = record { counted = no_rise now.used; holds = holds } in
      subst (Advances now) (sym e) here

  advance_failure : (at : ℕ) (why : FailWhy) → Allowed why → IsAdvance (FailsAt at why)
  advance_failure at why allowed now o holds e =
      let here : Advances now (Fails at why now.used) = record { counted = no_rise now.used; allowed = allowed } in
      subst (Advances now) (sym e) here

  advance_follow : (fate : Fate) (then_on : ℕ → Fate) (else_on : ℕ → FailWhy → Fate) → IsAdvance fate → ((left : ℕ) → IsAdvance (then_on left)) →
      ((at : ℕ) (why : FailWhy) → Allowed why → IsAdvance (else_on at why)) → IsAdvance (Follow fate then_on else_on)
  advance_follow fate then_on else_on first then_first else_first now _ holds (done {left} {made} {outcome = o} p q) =
      let h = first now (Done made left) holds p in
      advances_on now made.used made o refl h.counted (then_first left made o h.holds q)
  advance_follow fate then_on else_on first then_first else_first now _ holds (fails {at} {why} {used} {outcome = o} p q) =
      let h = first now (Fails at why used) holds p in
      let next : Progress = record now { used = used } in
      advances_on now used next o refl h.counted (else_first at why h.allowed next o (recounted now used h.counted.rises holds) q)
  advance_follow fate then_on else_on first then_first else_first now _ holds (spent {at} p) = tt

  advance_each : (run : Run) → ((goal : ℕ) → IsAdvance (run goal)) → (more goal left : ℕ) → IsAdvance (Each run more goal left)
  advance_each run first zero goal left = advance_end left
  advance_each run first (suc more) goal left =
      advance_follow (run (goal + left)) (λ new. Each run more goal (left + new)) FailsAt (first (goal + left))
      (λ new. advance_each run first more goal (left + new)) advance_failure

  advance_again : (run : Run) → ((goal : ℕ) → IsAdvance (run goal)) → (times goal : ℕ) → IsAdvance (Again run times goal)
  advance_again run first zero goal = advance_end 1
  advance_again run first (suc times) goal =
      advance_follow (run goal) (λ left. Each (Again run times) left goal 0) (λ at why. Ends 1) (first goal)
      (λ left. advance_each (Again run times) (advance_again run first times) left goal 0) (λ at why allowed. advance_end 1)

  advance_branched : (at parts goals : ℕ) (each : Fate) → IsAdvance each → IsAdvance (Branched at parts goals each)
  advance_branched at parts goals each first now _ holds (as_many {outcome = o} e p) = first now o holds p
  advance_branched at parts goals each first now _ holds (another_count n) = record { counted = no_rise now.used; allowed = wrong_count }

  advance_once : (atom : Atom) (goal : ℕ) → IsAdvance (Once atom goal)
  advance_once atom goal now _ holds (steps {steps = new} {rows} {left} room made counted) =
      record { counted = one_run now.used room; holds = by_atom now goal atom new rows room holds made }
  advance_once atom goal now _ holds (fault {why} room h) = record { counted = one_run now.used room; allowed = by_fault now goal atom why room holds h }
  advance_once atom goal now _ holds (once_spent full) = tt

  advance_tries : (atom : Atom) (goal more place : ℕ) (why : FailWhy) → Allowed why → IsAdvance (Tries atom goal more place why)
  advance_tries atom goal zero place why allowed = advance_failure atom.at why allowed
  advance_tries atom goal (suc more) place why allowed =
      advance_follow (Once (placed place atom) goal) Ends (λ at last. Tries atom goal more (place + 1) last)
      (advance_once (placed place atom) goal) advance_end (λ at last also. advance_tries atom goal more (place + 1) last also)

  advance_atom_on : (atom : Atom) (on_side : Option Side) (goal : ℕ) → IsAdvance (RunAtomOn atom on_side goal)
  advance_atom_on atom None goal now o holds p = advance_once atom goal now o holds p
  advance_atom_on atom (Some on_side) goal now o holds p = advance_tries atom goal (length (formulas on_side p.0)) 1 NoPlace no_place now o holds p.2

  advance_uses : (atoms : List Atom) (goals goal : ℕ) → IsAdvance (OneByOne atoms goals goal)
  advance_uses [] goals goal = advance_end goals
  advance_uses (atom ∷ rest) goals goal =
      advance_follow (OnEach (RunAtom atom) goals goal) (λ left. OneByOne rest left goal) FailsAt
      (advance_each (RunAtom atom) (advance_atom_on atom (side atom.arguments)) goals goal 0) (λ left. advance_uses rest left goal) advance_failure

  advance_derive : (atom : Atom) (goal : ℕ) → IsAdvance (RunDerive atom goal)
  advance_derive atom goal now _ holds (plans {outcome = o} s place path calls room stands at planned runs) =
      let next : Progress = record now { used = now.used + 1 } in
      let counted = one_run now.used room in
      let rest = advance_uses (map (use_of atom.at place) calls) 1 goal next o (recounted now (now.used + 1) counted.rises holds) runs in
      advances_on now (now.used + 1) next o refl counted rest
  advance_derive atom goal now _ holds (no_plan s place path why room stands at none) =
      record { counted = one_run now.used room; allowed = unplanned why }
  advance_derive atom goal now _ holds (once_spent full) = tt

  advance_named : (derives : Bool) (atom : Atom) (goal : ℕ) → IsAdvance (RunNamedBy derives atom goal)
  advance_named true atom goal = advance_derive atom goal
  advance_named false atom goal = advance_atom_on atom (side atom.arguments) goal

  mutual
    pub advance_fate : (t : Tactic) (goals goal : ℕ) → IsAdvance (Runs t goals goal)
    advance_fate (Choice parts) goals goal = advance_each (Alternatives parts) (advance_alternative parts) goals goal 0
    advance_fate (Sequence parts) goals goal = advance_each (InTurn parts 1) (advance_turn parts 1) goals goal 0
    advance_fate (Branch at parts) goals goal = advance_branched at (count parts) goals (OnOwn parts goal 0) (advance_own parts goal 0)
    advance_fate (Repeat body times) goals goal =
        advance_each (Again (Runs body 1) times) (advance_again (Runs body 1) (advance_fate body 1) times) goals goal 0
    advance_fate (One atom) goals goal = advance_each (RunNamed atom) (advance_named (is_derive atom) atom) goals goal 0

    advance_alternative : (parts : Tactics) (goal : ℕ) → IsAdvance (Alternatives parts goal)
    advance_alternative no_parts goal = advance_end 1
    advance_alternative (part t no_parts) goal = advance_fate t 1 goal
    advance_alternative (part t (part u rest)) goal =
        advance_follow (Runs t 1 goal) Ends (λ at why. Alternatives (part u rest) goal) (advance_fate t 1 goal) advance_end
        (λ at why allowed. advance_alternative (part u rest) goal)

    advance_turn : (parts : Tactics) (goals goal : ℕ) → IsAdvance (InTurn parts goals goal)
    advance_turn no_parts goals goal = advance_end goals
    advance_turn (part t rest) goals goal =
        advance_follow (Runs t goals goal) (λ left. InTurn rest left goal) FailsAt (advance_fate t goals goal) (λ left. advance_turn rest left goal)
        advance_failure

    advance_own : (parts : Tactics) (goal left : ℕ) → IsAdvance (OnOwn parts goal left)
    advance_own no_parts goal left = advance_end left
    advance_own (part t rest) goal left =
        advance_follow (Runs t 1 (goal + left)) (λ new. OnOwn rest goal (left + new)) FailsAt (advance_fate t 1 (goal + left))
        (λ new. advance_own rest goal (left + new)) advance_failure
