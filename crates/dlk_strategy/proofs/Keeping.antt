-- What atoms keep, a run keeps.
use Rattle.std.proofs.Common.{ℕ, zero, suc, ◌+◌, Bool, true, false, List, [], ◌∷◌, ◌++◌, map, length, Option, Some, None, sym, subst}
use Rattle.std.specs.List.{All}
use Rattle.std.proofs.lemmas.List.Elements.{All-head, All-tail}
use Rattle.dlk_tree.specs.Trees.{Tree}
use Rattle.dlk_sequent.specs.declared.sequent.Place.{Place}
use Rattle.dlk_derive.specs.Plans.{Call}
use Rattle.dlk_derive.specs.Derives.{Plans, use_of}
use Rattle.dlk_calculus.specs.Provables.{Provable}
use Rattle.dlk_calculus.specs.Steps.{Step}
use Rattle.dlk_rules.specs.declared.arguments.Side.{Side}
use Rattle.dlk_tacsyn.specs.Tactics.{Atom, Tactic, Choice, Sequence, Branch, Repeat, One, Tactics, no_parts, part, count, EachAtom, EachAtomOf}
use Rattle.dlk_elab.specs.Atoms.{AtomSteps}
use Rattle.dlk_elab.specs.declared.fault.FailWhy.{FailWhy}
use Rattle.dlk_elab.specs.declared.fault.FailWhy.TheVariants.{NoPlace}
use Rattle.dlk_strategy.specs.Runs.{Progress, Outcome, Done, Fails, Budget, Fate, Run, Follow, done, fails, spent, Ends, FailsAt, Each, Again, Once}
use Rattle.dlk_strategy.specs.Runs.{steps, fault, side, placed, formulas, Tries, RunAtomOn}
use Rattle.dlk_strategy.specs.Runs.{RunAtom, Branched, as_many, another_count, Runs, Alternatives, InTurn, OnOwn}
use Rattle.dlk_strategy.specs.Runs.{OnEach, OneByOne, RunDerive, plans, no_plan, RunNamedBy, RunNamed, is_derive}
use Rattle.dlk_strategy.specs.Runs.{spent as once_spent}

-- Holds is of what is made, whatever the count of runs is, and OfAtom of an atom, whatever its place is, and of the uses of each plan. Steps of such
-- an atom keep it.
module _ (Holds : Progress → Type 0) (OfAtom : Atom → Type 0)
    (uncounted : (now : Progress) (used : ℕ) → Holds now → Holds (record now { used = used }))
    (unplaced : (n : ℕ) (atom : Atom) → OfAtom atom → OfAtom (placed n atom))
    (planned : (there : Option Tree) (path : List ℕ) (calls : List Call) → Plans there path calls → (byte : ℕ) (place : Place) →
    All OfAtom (map (use_of byte place) calls))
    (kept : (now : Progress) (goal : ℕ) (atom : Atom) (new : List Step) (rows : List Provable) → OfAtom atom → Holds now →
    AtomSteps now.rows (length now.rows) goal atom new rows → Holds (record { steps = now.steps ++ new; rows = rows; used = now.used + 1 })) where
  -- where a run is done
  abbrev pub HoldsIn : Outcome → Type 0
  HoldsIn (Done made left) = Holds made
  HoldsIn (Fails at why used) = Unit {0}
  HoldsIn (Budget at) = Unit {0}

  abbrev pub Keeps : Fate → Type 0
  Keeps fate = (now : Progress) (o : Outcome) → Holds now → fate now o → HoldsIn o

  keeps_end : (left : ℕ) → Keeps (Ends left)
  keeps_end left now o holds e = subst HoldsIn (sym e) holds

  keeps_failure : (at : ℕ) (why : FailWhy) → Keeps (FailsAt at why)
  keeps_failure at why now o holds e = subst HoldsIn (sym e) tt

  keeps_follow : (fate : Fate) (then_on : ℕ → Fate) (else_on : ℕ → FailWhy → Fate) → Keeps fate → ((left : ℕ) → Keeps (then_on left)) →
      ((at : ℕ) (why : FailWhy) → Keeps (else_on at why)) → Keeps (Follow fate then_on else_on)
  keeps_follow fate then_on else_on keeps keeps_then keeps_else now _ holds (done {left} {made} {outcome = o} p q) =
      keeps_then left made o (keeps now (Done made left) holds p) q
  keeps_follow fate then_on else_on keeps keeps_then keeps_else now _ holds (fails {at} {why} {used} {outcome = o} p q) =
      keeps_else at why (record now { used = used }) o (uncounted now used holds) q
  keeps_follow fate then_on else_on keeps keeps_then keeps_else now _ holds (spent {at} p) = tt

  keeps_each : (run : Run) → ((goal : ℕ) → Keeps (run goal)) → (more goal left : ℕ) → Keeps (Each run more goal left)
  keeps_each run keeps zero goal left = keeps_end left
  keeps_each run keeps (suc more) goal left =
      keeps_follow (run (goal + left)) (λ new. Each run more goal (left + new)) FailsAt (keeps (goal + left))
      (λ new. keeps_each run keeps more goal (left + new)) keeps_failure

  keeps_again : (run : Run) → ((goal : ℕ) → Keeps (run goal)) → (times goal : ℕ) → Keeps (Again run times goal)
  keeps_again run keeps zero goal = keeps_end 1
  keeps_again run keeps (suc times) goal =
      keeps_follow (run goal) (λ left. Each (Again run times) left goal 0) (λ at why. Ends 1) (keeps goal)
      (λ left. keeps_each (Again run times) (keeps_again run keeps times) left goal 0) (λ at why. keeps_end 1)

  keeps_branched : (at parts goals : ℕ) (each : Fate) → Keeps each → Keeps (Branched at parts goals each)
  keeps_branched at parts goals each keeps now _ holds (as_many {outcome = o} e p) = keeps now o holds p
  keeps_branched at parts goals each keeps now _ holds (another_count n) = tt

  keeps_once : (atom : Atom) (goal : ℕ) → OfAtom atom → Keeps (Once atom goal)
  keeps_once atom goal is now _ holds (steps {steps = new} {rows} {left} room made counted) = kept now goal atom new rows is holds made
  keeps_once atom goal is now _ holds (fault room why) = tt
  keeps_once atom goal is now _ holds (once_spent full) = tt

  keeps_tries : (atom : Atom) (goal more place : ℕ) (why : FailWhy) → OfAtom atom → Keeps (Tries atom goal more place why)
  keeps_tries atom goal zero place why is = keeps_failure atom.at why
  keeps_tries atom goal (suc more) place why is =
      keeps_follow (Once (placed place atom) goal) Ends (λ at last. Tries atom goal more (place + 1) last)
      (keeps_once (placed place atom) goal (unplaced place atom is)) keeps_end (λ at last. keeps_tries atom goal more (place + 1) last is)

  keeps_atom_on : (atom : Atom) (on : Option Side) (goal : ℕ) → OfAtom atom → Keeps (RunAtomOn atom on goal)
  keeps_atom_on atom None goal is now o holds p = keeps_once atom goal is now o holds p
  keeps_atom_on atom (Some on) goal is now o holds p = keeps_tries atom goal (length (formulas on p.0)) 1 NoPlace is now o holds p.2

  keeps_uses : (atoms : List Atom) (goals goal : ℕ) → All OfAtom atoms → Keeps (OneByOne atoms goals goal)
  keeps_uses [] goals goal are = keeps_end goals
  keeps_uses (atom ∷ rest) goals goal are =
      keeps_follow (OnEach (RunAtom atom) goals goal) (λ left. OneByOne rest left goal) FailsAt
      (keeps_each (RunAtom atom) (λ here. keeps_atom_on atom (side atom.arguments) here (All-head OfAtom atom rest are)) goals goal 0)
      (λ left. keeps_uses rest left goal (All-tail OfAtom atom rest are)) keeps_failure

  keeps_derive : (atom : Atom) (goal : ℕ) → Keeps (RunDerive atom goal)
  keeps_derive atom goal now _ holds (plans {outcome = o} s place path calls room stands at by_plan runs) =
      keeps_uses (map (use_of atom.at place) calls) 1 goal (planned _ path calls by_plan atom.at place) (record now { used = now.used + 1 }) o
      (uncounted now (now.used + 1) holds) runs
  keeps_derive atom goal now _ holds (no_plan s place path why room stands at none) = tt
  keeps_derive atom goal now _ holds (once_spent full) = tt

  keeps_named : (derives : Bool) (atom : Atom) (goal : ℕ) → OfAtom atom → Keeps (RunNamedBy derives atom goal)
  keeps_named true atom goal is = keeps_derive atom goal
  keeps_named false atom goal is = keeps_atom_on atom (side atom.arguments) goal is

  mutual
    pub keeps_fate : (t : Tactic) (goals goal : ℕ) → EachAtom OfAtom t → Keeps (Runs t goals goal)
    keeps_fate (Choice parts) goals goal is = keeps_each (Alternatives parts) (λ here. keeps_alternative parts here is) goals goal 0
    keeps_fate (Sequence parts) goals goal is = keeps_each (InTurn parts 1) (λ here. keeps_turn parts 1 here is) goals goal 0
    keeps_fate (Branch at parts) goals goal is = keeps_branched at (count parts) goals (OnOwn parts goal 0) (keeps_own parts goal 0 is)
    keeps_fate (Repeat body times) goals goal is =
        keeps_each (Again (Runs body 1) times) (keeps_again (Runs body 1) (λ here. keeps_fate body 1 here is) times) goals goal 0
    keeps_fate (One atom) goals goal is = keeps_each (RunNamed atom) (λ here. keeps_named (is_derive atom) atom here is) goals goal 0

    keeps_alternative : (parts : Tactics) (goal : ℕ) → EachAtomOf OfAtom parts → Keeps (Alternatives parts goal)
    keeps_alternative no_parts goal is = keeps_end 1
    keeps_alternative (part t no_parts) goal is = keeps_fate t 1 goal is.0
    keeps_alternative (part t (part u rest)) goal is =
        keeps_follow (Runs t 1 goal) Ends (λ at why. Alternatives (part u rest) goal) (keeps_fate t 1 goal is.0) keeps_end
        (λ at why. keeps_alternative (part u rest) goal is.1)

    keeps_turn : (parts : Tactics) (goals goal : ℕ) → EachAtomOf OfAtom parts → Keeps (InTurn parts goals goal)
    keeps_turn no_parts goals goal is = keeps_end goals
    keeps_turn (part t rest) goals goal is =
        keeps_follow (Runs t goals goal) (λ left. InTurn rest left goal) FailsAt (keeps_fate t goals goal is.0) (λ left. keeps_turn rest left goal is.1)
        keeps_failure

    keeps_own : (parts : Tactics) (goal left : ℕ) → EachAtomOf OfAtom parts → Keeps (OnOwn parts goal left)
    keeps_own no_parts goal left is = keeps_end left
    keeps_own (part t rest) goal left is =
        keeps_follow (Runs t 1 (goal + left)) (λ new. OnOwn rest goal (left + new)) FailsAt (keeps_fate t 1 (goal + left) is.0)
        (λ new. keeps_own rest goal (left + new) is.1) keeps_failure
