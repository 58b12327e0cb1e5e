-- A run doesn't look at the steps that were made before.
use Rattle.std.proofs.Common.{◌≡◌, ℕ, zero, suc, ◌+◌, Bool, true, false, List, [], ◌∷◌, ◌++◌, map, length, Option, Some, None, refl, sym, ap, subst}
use Rattle.std.proofs.Common.{append_assoc}
use Rattle.dlk_calculus.specs.Steps.{Step}
use Rattle.dlk_derive.specs.Derives.{use_of}
use Rattle.dlk_rules.specs.declared.arguments.Side.{Side}
use Rattle.dlk_tacsyn.specs.Tactics.{Atom, Tactic, Choice, Sequence, Branch, Repeat, One, Tactics, no_parts, part, count}
use Rattle.dlk_elab.specs.declared.fault.FailWhy.{FailWhy}
use Rattle.dlk_elab.specs.declared.fault.FailWhy.TheVariants.{WrongCount, NoPlace}
use Rattle.dlk_strategy.specs.Runs.{Progress, Outcome, Done, Fails, Budget, moved, behind, Fate, Run, Follow, done, fails, spent, Ends, FailsAt, Each}
use Rattle.dlk_strategy.specs.Runs.{OnEach, Again, Once}
use Rattle.dlk_strategy.specs.Runs.{steps, fault, side, placed, formulas, Tries, RunAtomOn, RunAtom, Branched, as_many, another_count, Runs}
use Rattle.dlk_strategy.specs.Runs.{Alternatives, InTurn, OnOwn}
use Rattle.dlk_strategy.specs.Runs.{OneByOne, RunDerive, plans, no_plan, RunNamedBy, RunNamed, is_derive}
use Rattle.dlk_strategy.specs.Runs.{spent as once_spent}
use Rattle.dlk_strategy.specs.Whys.{why_of}

module _ (before : List Step) where
  -- what becomes of a goal with fewer steps, of which this is made with more
  pub record Fewer (fate : Fate) (now : Progress) (o : Outcome) : Type 0 where
    pub fewer : Outcome
    pub becomes : fate now fewer
    pub same : o ≡ behind before fewer

  -- what becomes of a goal is the same with more steps before, and with fewer
  pub record IsBlind (fate : Fate) : Type 0 where
    pub forth : (now : Progress) (o : Outcome) → fate now o → fate (moved before now) (behind before o)
    pub back : (now : Progress) (o : Outcome) → fate (moved before now) o → Fewer fate now o

  blind_end : (left : ℕ) → IsBlind (Ends left)
  blind_end left = record {
    forth = λ now o e. ap (behind before) e;
    back = λ now o e. record { fewer = Done now left; becomes = refl; same = e };
  }

  blind_failure : (at : ℕ) (why : FailWhy) → IsBlind (FailsAt at why)
  blind_failure at why = record {
    forth = λ now o e. ap (behind before) e;
    back = λ now o e. record { fewer = Fails at why now.used; becomes = refl; same = e };
  }

  -- what a run with fewer steps made, where one with more made this
  record WasDone (made : Progress) (left : ℕ) (o : Outcome) : Type 0 where
    fewer : Progress
    is : o ≡ Done fewer left
    same : made ≡ moved before fewer

  was_done : (made : Progress) (left : ℕ) (o : Outcome) → Done made left ≡ behind before o → WasDone made left o
  was_done made left (Done fewer n) e =
      let count : left ≡ n = cc e in
      record { fewer = fewer; is = ap (Done fewer) (sym count); same = cc e }
  was_done made left (Fails at why used) e = absurd (cc e)
  was_done made left (Budget at) e = absurd (cc e)

  has_failed : (at used : ℕ) (why : FailWhy) (o : Outcome) → Fails at why used ≡ behind before o → o ≡ Fails at why used
  has_failed at used why (Done fewer n) e = absurd (cc e)
  has_failed at used why (Fails byte reason more) e = sym e
  has_failed at used why (Budget byte) e = absurd (cc e)

  was_spent : (at : ℕ) (o : Outcome) → Budget at ≡ behind before o → o ≡ Budget at
  was_spent at (Done fewer n) e = absurd (cc e)
  was_spent at (Fails byte reason more) e = absurd (cc e)
  was_spent at (Budget byte) e = sym e

  module _ (fate : Fate) (then_on : ℕ → Fate) (else_on : ℕ → FailWhy → Fate) (one : IsBlind fate) (others : (left : ℕ) → IsBlind (then_on left))
      (failing : (at : ℕ) (why : FailWhy) → IsBlind (else_on at why)) where
    follow_forth : (now : Progress) (o : Outcome) → Follow fate then_on else_on now o → Follow fate then_on else_on (moved before now) (behind before o)
    follow_forth now _ (done {left} {made} {outcome = o} p q) = done (one.forth now (Done made left) p) ((others left).forth made o q)
    follow_forth now _ (fails {at} {why} {used} {outcome = o} p q) =
        fails (one.forth now (Fails at why used) p) ((failing at why).forth (record now { used = used }) o q)
    follow_forth now _ (spent {at} p) = spent (one.forth now (Budget at) p)

    follow_back : (now : Progress) (o : Outcome) → Follow fate then_on else_on (moved before now) o → Fewer (Follow fate then_on else_on) now o
    follow_back now _ (done {left} {made} {outcome = o} p q) =
        let first = one.back now (Done made left) p in
        let was = was_done made left first.fewer first.same in
        let rest = (others left).back was.fewer o (subst (λ (m : Progress). then_on left m o) was.same q) in
        record { fewer = rest.fewer; becomes = done (subst (λ (x : Outcome). fate now x) was.is first.becomes) rest.becomes; same = rest.same }
    follow_back now _ (fails {at} {why} {used} {outcome = o} p q) =
        let first = one.back now (Fails at why used) p in
        let was = has_failed at used why first.fewer first.same in
        let rest = (failing at why).back (record now { used = used }) o q in
        record { fewer = rest.fewer; becomes = fails (subst (λ (x : Outcome). fate now x) was first.becomes) rest.becomes; same = rest.same }
    follow_back now _ (spent {at} p) =
        let first = one.back now (Budget at) p in
        let was = was_spent at first.fewer first.same in
        record { fewer = Budget at; becomes = spent (subst (λ (x : Outcome). fate now x) was first.becomes); same = refl }

    blind_follow : IsBlind (Follow fate then_on else_on)
    blind_follow = record { forth = follow_forth; back = follow_back }

  blind_each : (run : Run) → ((goal : ℕ) → IsBlind (run goal)) → (more goal left : ℕ) → IsBlind (Each run more goal left)
  blind_each run blind zero goal left = blind_end left
  blind_each run blind (suc more) goal left =
      blind_follow (run (goal + left)) (λ new. Each run more goal (left + new)) FailsAt (blind (goal + left))
      (λ new. blind_each run blind more goal (left + new)) blind_failure

  blind_again : (run : Run) → ((goal : ℕ) → IsBlind (run goal)) → (times goal : ℕ) → IsBlind (Again run times goal)
  blind_again run blind zero goal = blind_end 1
  blind_again run blind (suc times) goal =
      blind_follow (run goal) (λ left. Each (Again run times) left goal 0) (λ at why. Ends 1) (blind goal)
      (λ left. blind_each (Again run times) (blind_again run blind times) left goal 0) (λ at why. blind_end 1)

  branched_forth : (at parts goals : ℕ) (each : Fate) → IsBlind each → (now : Progress) (o : Outcome) → Branched at parts goals each now o →
      Branched at parts goals each (moved before now) (behind before o)
  branched_forth at parts goals each blind now _ (as_many {outcome = o} e p) = as_many e (blind.forth now o p)
  branched_forth at parts goals each blind now _ (another_count n) = another_count n

  branched_back : (at parts goals : ℕ) (each : Fate) → IsBlind each → (now : Progress) (o : Outcome) → Branched at parts goals each (moved before now) o →
      Fewer (Branched at parts goals each) now o
  branched_back at parts goals each blind now _ (as_many {outcome = o} e p) =
      let f = blind.back now o p in record { fewer = f.fewer; becomes = as_many e f.becomes; same = f.same }
  branched_back at parts goals each blind now _ (another_count n) = record { fewer = Fails at WrongCount now.used; becomes = another_count n; same = refl }

  blind_branched : (at parts goals : ℕ) (each : Fate) → IsBlind each → IsBlind (Branched at parts goals each)
  blind_branched at parts goals each blind = record { forth = branched_forth at parts goals each blind; back = branched_back at parts goals each blind }

  once_forth : (atom : Atom) (goal : ℕ) (now : Progress) (o : Outcome) → Once atom goal now o → Once atom goal (moved before now) (behind before o)
  once_forth atom goal now _ (steps {steps = new} {rows} {left} room made counted) =
      let is = append_assoc before now.steps new in
      let P : List Step → Type 0 = λ xs. Once atom goal (moved before now) (Done (record { steps = xs; rows = rows; used = now.used + 1 }) left) in
      subst P is (steps room made counted)
  once_forth atom goal now _ (fault room why) = fault room why
  once_forth atom goal now _ (once_spent full) = once_spent full

  once_back : (atom : Atom) (goal : ℕ) (now : Progress) (o : Outcome) → Once atom goal (moved before now) o → Fewer (Once atom goal) now o
  once_back atom goal now _ (steps {steps = new} {rows} {left} room made counted) =
      let is = append_assoc before now.steps new in
      record {
        fewer = Done (record { steps = now.steps ++ new; rows = rows; used = now.used + 1 }) left;
        becomes = steps room made counted;
        same = λ i. Done (record { steps = is i; rows = rows; used = now.used + 1 }) left;
      }
  once_back atom goal now _ (fault {why} room h) = record { fewer = Fails atom.at why (now.used + 1); becomes = fault room h; same = refl }
  once_back atom goal now _ (once_spent full) = record { fewer = Budget atom.at; becomes = once_spent full; same = refl }

  blind_once : (atom : Atom) (goal : ℕ) → IsBlind (Once atom goal)
  blind_once atom goal = record { forth = once_forth atom goal; back = once_back atom goal }

  blind_tries : (atom : Atom) (goal more place : ℕ) (why : FailWhy) → IsBlind (Tries atom goal more place why)
  blind_tries atom goal zero place why = blind_failure atom.at why
  blind_tries atom goal (suc more) place why =
      blind_follow (Once (placed place atom) goal) Ends (λ at last. Tries atom goal more (place + 1) last)
      (blind_once (placed place atom) goal) blind_end (λ at last. blind_tries atom goal more (place + 1) last)

  blind_atom_on : (atom : Atom) (on : Option Side) (goal : ℕ) → IsBlind (RunAtomOn atom on goal)
  blind_atom_on atom None goal = blind_once atom goal
  blind_atom_on atom (Some on) goal = record {
    forth = λ now o p. (p.0, p.1, (blind_tries atom goal (length (formulas on p.0)) 1 NoPlace).forth now o p.2);
    back = λ now o p.
        let f = (blind_tries atom goal (length (formulas on p.0)) 1 NoPlace).back now o p.2 in
        record { fewer = f.fewer; becomes = (p.0, p.1, f.becomes); same = f.same };
  }

  blind_uses : (atoms : List Atom) (goals goal : ℕ) → IsBlind (OneByOne atoms goals goal)
  blind_uses [] goals goal = blind_end goals
  blind_uses (atom ∷ rest) goals goal =
      blind_follow (OnEach (RunAtom atom) goals goal) (λ left. OneByOne rest left goal) FailsAt
      (blind_each (RunAtom atom) (blind_atom_on atom (side atom.arguments)) goals goal 0) (λ left. blind_uses rest left goal) blind_failure

  derive_forth : (atom : Atom) (goal : ℕ) (now : Progress) (o : Outcome) → RunDerive atom goal now o → RunDerive atom goal (moved before now) (behind before o)
  derive_forth atom goal now _ (plans {outcome = o} s place path calls room stands at planned runs) =
      plans s place path calls room stands at planned
      ((blind_uses (map (use_of atom.at place) calls) 1 goal).forth (record now { used = now.used + 1 }) o runs)
  derive_forth atom goal now _ (no_plan s place path why room stands at none) = no_plan s place path why room stands at none
  derive_forth atom goal now _ (once_spent full) = once_spent full

  derive_back : (atom : Atom) (goal : ℕ) (now : Progress) (o : Outcome) → RunDerive atom goal (moved before now) o → Fewer (RunDerive atom goal) now o
  derive_back atom goal now _ (plans {outcome = o} s place path calls room stands at planned runs) =
      let f = (blind_uses (map (use_of atom.at place) calls) 1 goal).back (record now { used = now.used + 1 }) o runs in
      record { fewer = f.fewer; becomes = plans s place path calls room stands at planned f.becomes; same = f.same }
  derive_back atom goal now _ (no_plan s place path why room stands at none) =
      record { fewer = Fails atom.at (why_of why) (now.used + 1); becomes = no_plan s place path why room stands at none; same = refl }
  derive_back atom goal now _ (once_spent full) = record { fewer = Budget atom.at; becomes = once_spent full; same = refl }

  blind_named : (derives : Bool) (atom : Atom) (goal : ℕ) → IsBlind (RunNamedBy derives atom goal)
  blind_named true atom goal = record { forth = derive_forth atom goal; back = derive_back atom goal }
  blind_named false atom goal = blind_atom_on atom (side atom.arguments) goal

  mutual
    pub blind_fate : (t : Tactic) (goals goal : ℕ) → IsBlind (Runs t goals goal)
    blind_fate (Choice parts) goals goal = blind_each (Alternatives parts) (blind_alternative parts) goals goal 0
    blind_fate (Sequence parts) goals goal = blind_each (InTurn parts 1) (blind_turn parts 1) goals goal 0
    blind_fate (Branch at parts) goals goal = blind_branched at (count parts) goals (OnOwn parts goal 0) (blind_own parts goal 0)
    blind_fate (Repeat body times) goals goal = blind_each (Again (Runs body 1) times) (blind_again (Runs body 1) (blind_fate body 1) times) goals goal 0
    blind_fate (One atom) goals goal = blind_each (RunNamed atom) (blind_named (is_derive atom) atom) goals goal 0

    blind_alternative : (parts : Tactics) (goal : ℕ) → IsBlind (Alternatives parts goal)
    blind_alternative no_parts goal = blind_end 1
    blind_alternative (part t no_parts) goal = blind_fate t 1 goal
    blind_alternative (part t (part u rest)) goal =
        blind_follow (Runs t 1 goal) Ends (λ at why. Alternatives (part u rest) goal) (blind_fate t 1 goal) blind_end
        (λ at why. blind_alternative (part u rest) goal)

    blind_turn : (parts : Tactics) (goals goal : ℕ) → IsBlind (InTurn parts goals goal)
    blind_turn no_parts goals goal = blind_end goals
    blind_turn (part t rest) goals goal =
        blind_follow (Runs t goals goal) (λ left. InTurn rest left goal) FailsAt (blind_fate t goals goal) (λ left. blind_turn rest left goal) blind_failure

    blind_own : (parts : Tactics) (goal left : ℕ) → IsBlind (OnOwn parts goal left)
    blind_own no_parts goal left = blind_end left
    blind_own (part t rest) goal left =
        blind_follow (Runs t 1 (goal + left)) (λ new. OnOwn rest goal (left + new)) FailsAt (blind_fate t 1 (goal + left))
        (λ new. blind_own rest goal (left + new)) blind_failure
