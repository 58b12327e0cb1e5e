-- A run that counts nothing changes nothing.
use Rattle.std.proofs.Common.{◌≡◌, ℕ, zero, suc, ◌+◌, ◌≤◌, Bool, true, false, List, [], ◌∷◌, map, length, Option, Some, None, refl, sym, ap, subst, ◌∙◌, arith}
use Rattle.dlk_derive.specs.Derives.{use_of}
use Rattle.dlk_rules.specs.declared.arguments.Side.{Side}
use Rattle.dlk_tacsyn.specs.Tactics.{Atom, Tactic, Choice, Sequence, Branch, Repeat, One, Tactics, no_parts, part, count}
use Rattle.dlk_elab.specs.declared.fault.FailWhy.{FailWhy}
use Rattle.dlk_elab.specs.declared.fault.FailWhy.TheVariants.{NoPlace}
use Rattle.dlk_strategy.specs.Runs.{Progress, Outcome, Done, Fails, Budget, Fate, Run, Follow, done, fails, spent, Ends, FailsAt, Each, OnEach, Again}
use Rattle.dlk_strategy.specs.Runs.{Once, steps, fault, side, placed, formulas, Tries, RunAtomOn, RunAtom, Branched, as_many, another_count, Runs}
use Rattle.dlk_strategy.specs.Runs.{Alternatives, InTurn, OnOwn}
use Rattle.dlk_strategy.specs.Runs.{OneByOne, RunDerive, plans, no_plan, RunNamedBy, RunNamed, is_derive}
use Rattle.dlk_strategy.specs.Runs.{spent as once_spent}

-- the count doesn't fall, and where it stays nothing is made and so many goals stand there
abbrev Counts : ℕ → Progress → Outcome → Type 0
Counts n now (Done made left) = (now.used ≤ made.used) × (made.used ≡ now.used → (made ≡ now) × (left ≡ n))
Counts n now (Fails at why used) = now.used ≤ used
Counts n now (Budget at) = Unit {0}

abbrev IsCounted : ℕ → Fate → Type 0
IsCounted n fate = (now : Progress) (o : Outcome) → fate now o → Counts n now o

counted_end : (left : ℕ) → IsCounted left (Ends left)
counted_end left now o e =
    let stays : now.used ≤ now.used = omega arith in
    let done_here : Counts left now (Done now left) = (stays, λ same. (refl, refl)) in
    subst (λ (x : Outcome). Counts left now x) (sym e) done_here

counted_failure : (n at : ℕ) (why : FailWhy) → IsCounted n (FailsAt at why)
counted_failure n at why now o e =
    let stays : Counts n now (Fails at why now.used) = omega arith in
    subst (λ (x : Outcome). Counts n now x) (sym e) stays

counts_on : (n first : ℕ) (rest : ℕ → ℕ) (left : ℕ) (now made : Progress) (o : Outcome) → Counts first now (Done made left) → Counts (rest left) made o →
    rest first ≡ n → Counts n now o
counts_on n first rest left now made (Done after m) a b e = (
  omega (arith, a.0, b.0),
  λ same.
      let mid : made.used ≡ now.used = omega (arith, a.0, b.0, same) in
      let end : after.used ≡ made.used = omega (arith, same, mid) in
      let one = a.1 mid in
      let two = b.1 end in
      (two.0 ∙ one.0, two.1 ∙ ap rest one.1 ∙ e),
)
counts_on n first rest left now made (Fails at why used) a b e = omega (arith, a.0, b)
counts_on n first rest left now made (Budget at) a b e = tt

counts_else : (n used : ℕ) (now : Progress) (o : Outcome) → now.used ≤ used → Counts n (record now { used = used }) o → Counts n now o
counts_else n used now (Done made left) a b = (
  omega (arith, a, b.0),
  λ same.
      let up : used ≡ now.used = omega (arith, a, b.0, same) in
      let is = b.1 (same ∙ sym up) in
      let back : record now { used = used } ≡ now = λ i. record now { used = up i } in
      (is.0 ∙ back, is.1),
)
counts_else n used now (Fails at why more) a b = omega (arith, a, b)
counts_else n used now (Budget at) a b = tt

counted_follow : (n first : ℕ) (rest : ℕ → ℕ) (fate : Fate) (then_on : ℕ → Fate) (else_on : ℕ → FailWhy → Fate) → IsCounted first fate →
    ((left : ℕ) → IsCounted (rest left) (then_on left)) → ((at : ℕ) (why : FailWhy) → IsCounted n (else_on at why)) → rest first ≡ n →
    IsCounted n (Follow fate then_on else_on)
counted_follow n first rest fate then_on else_on one others failing e now _ (done {left} {made} {outcome = o} p q) =
    counts_on n first rest left now made o (one now (Done made left) p) (others left made o q) e
counted_follow n first rest fate then_on else_on one others failing e now _ (fails {at} {why} {used} {outcome = o} p q) =
    counts_else n used now o (one now (Fails at why used) p) (failing at why (record now { used = used }) o q)
counted_follow n first rest fate then_on else_on one others failing e now _ (spent {at} p) = tt

counted_each : (run : Run) → ((goal : ℕ) → IsCounted 1 (run goal)) → (more goal left : ℕ) → IsCounted (left + more) (Each run more goal left)
counted_each run counted zero goal left =
    let e : left ≡ left + zero = omega arith in
    subst (λ n. IsCounted n (Ends left)) e (counted_end left)
counted_each run counted (suc more) goal left =
    counted_follow (left + suc more) 1 (λ new. left + new + more) (run (goal + left)) (λ new. Each run more goal (left + new)) FailsAt (counted (goal + left))
    (λ new. counted_each run counted more goal (left + new)) (counted_failure (left + suc more)) (omega arith)

counted_on_each : (run : Run) → ((goal : ℕ) → IsCounted 1 (run goal)) → (goals goal : ℕ) → IsCounted goals (OnEach run goals goal)
counted_on_each run counted goals goal =
    let e : 0 + goals ≡ goals = omega arith in
    subst (λ n. IsCounted n (Each run goals goal 0)) e (counted_each run counted goals goal 0)

counted_again : (run : Run) → ((goal : ℕ) → IsCounted 1 (run goal)) → (times goal : ℕ) → IsCounted 1 (Again run times goal)
counted_again run counted zero goal = counted_end 1
counted_again run counted (suc times) goal =
    counted_follow 1 1 (λ left. left) (run goal) (λ left. Each (Again run times) left goal 0) (λ at why. Ends 1) (counted goal)
    (λ left. counted_on_each (Again run times) (counted_again run counted times) left goal) (λ at why. counted_end 1) refl

counted_branched : (at parts goals : ℕ) (each : Fate) → IsCounted parts each → IsCounted goals (Branched at parts goals each)
counted_branched at parts goals each counted now _ (as_many {outcome = o} e p) = subst (λ n. Counts n now o) (sym e) (counted now o p)
counted_branched at parts goals each counted now _ (another_count n) = omega arith

counted_once : (atom : Atom) (goal : ℕ) → IsCounted 1 (Once atom goal)
counted_once atom goal now _ (steps {steps = new} {rows} {left} room made counted) = (omega arith, λ same. absurd (omega (arith, same)))
counted_once atom goal now _ (fault room why) = omega arith
counted_once atom goal now _ (once_spent full) = tt

counted_tries : (atom : Atom) (goal more place : ℕ) (why : FailWhy) → IsCounted 1 (Tries atom goal more place why)
counted_tries atom goal zero place why = counted_failure 1 atom.at why
counted_tries atom goal (suc more) place why =
    counted_follow 1 1 (λ n. n) (Once (placed place atom) goal) Ends (λ at last. Tries atom goal more (place + 1) last) (counted_once (placed place atom) goal)
    counted_end
    (λ at last. counted_tries atom goal more (place + 1) last) refl

counted_atom_on : (atom : Atom) (on : Option Side) (goal : ℕ) → IsCounted 1 (RunAtomOn atom on goal)
counted_atom_on atom None goal now o p = counted_once atom goal now o p
counted_atom_on atom (Some on) goal now o p = counted_tries atom goal (length (formulas on p.0)) 1 NoPlace now o p.2

counted_uses : (atoms : List Atom) (goals goal : ℕ) → IsCounted goals (OneByOne atoms goals goal)
counted_uses [] goals goal = counted_end goals
counted_uses (atom ∷ rest) goals goal =
    counted_follow goals goals (λ n. n) (OnEach (RunAtom atom) goals goal) (λ left. OneByOne rest left goal) FailsAt
    (counted_on_each (RunAtom atom) (counted_atom_on atom (side atom.arguments)) goals goal) (λ left. counted_uses rest left goal) (counted_failure goals) refl

counted_derive : (atom : Atom) (goal : ℕ) → IsCounted 1 (RunDerive atom goal)
counted_derive atom goal now _ (plans {outcome = o} s place path calls room stands at planned runs) =
    counts_else 1 (now.used + 1) now o (omega arith) (counted_uses (map (use_of atom.at place) calls) 1 goal (record now { used = now.used + 1 }) o runs)
counted_derive atom goal now _ (no_plan s place path why room stands at none) = omega arith
counted_derive atom goal now _ (once_spent full) = tt

counted_named : (derives : Bool) (atom : Atom) (goal : ℕ) → IsCounted 1 (RunNamedBy derives atom goal)
counted_named true atom goal = counted_derive atom goal
counted_named false atom goal = counted_atom_on atom (side atom.arguments) goal

mutual
  counted_fate : (t : Tactic) (goals goal : ℕ) → IsCounted goals (Runs t goals goal)
  counted_fate (Choice parts) goals goal = counted_on_each (Alternatives parts) (counted_alternative parts) goals goal
  counted_fate (Sequence parts) goals goal = counted_on_each (InTurn parts 1) (counted_turn parts 1) goals goal
  counted_fate (Branch at parts) goals goal = counted_branched at (count parts) goals (OnOwn parts goal 0)
      (let e : 0 + count parts ≡ count parts = omega arith in subst (λ n. IsCounted n (OnOwn parts goal 0)) e (counted_own parts goal 0))
  counted_fate (Repeat body times) goals goal = counted_on_each (Again (Runs body 1) times) (counted_again (Runs body 1) (counted_fate body 1) times) goals goal
  counted_fate (One atom) goals goal = counted_on_each (RunNamed atom) (counted_named (is_derive atom) atom) goals goal

  counted_alternative : (parts : Tactics) (goal : ℕ) → IsCounted 1 (Alternatives parts goal)
  counted_alternative no_parts goal = counted_end 1
  counted_alternative (part t no_parts) goal = counted_fate t 1 goal
  counted_alternative (part t (part u rest)) goal =
      counted_follow 1 1 (λ n. n) (Runs t 1 goal) Ends (λ at why. Alternatives (part u rest) goal) (counted_fate t 1 goal) counted_end
      (λ at why. counted_alternative (part u rest) goal) refl

  counted_turn : (parts : Tactics) (goals goal : ℕ) → IsCounted goals (InTurn parts goals goal)
  counted_turn no_parts goals goal = counted_end goals
  counted_turn (part t rest) goals goal =
      counted_follow goals goals (λ n. n) (Runs t goals goal) (λ left. InTurn rest left goal) FailsAt (counted_fate t goals goal)
      (λ left. counted_turn rest left goal)
      (counted_failure goals) refl

  counted_own : (parts : Tactics) (goal left : ℕ) → IsCounted (left + count parts) (OnOwn parts goal left)
  counted_own no_parts goal left =
      let e : left ≡ left + 0 = omega arith in
      subst (λ n. IsCounted n (Ends left)) e (counted_end left)
  counted_own (part t rest) goal left =
      counted_follow (left + (count rest + 1)) 1 (λ new. left + new + count rest) (Runs t 1 (goal + left)) (λ new. OnOwn rest goal (left + new)) FailsAt
      (counted_fate t 1 (goal + left)) (λ new. counted_own rest goal (left + new)) (counted_failure (left + (count rest + 1))) (omega arith)

pub still : (t : Tactic) (goal left : ℕ) (now made : Progress) → Runs t 1 goal now (Done made left) → made.used ≡ now.used → (made ≡ now) × (left ≡ 1)
still t goal left now made run same = (counted_fate t 1 goal now (Done made left) run).1 same
