-- One thing becomes of a goal.
use Rattle.std.proofs.Common.{◌≡◌, ℕ, zero, suc, ◌+◌, Bool, true, false, List, [], ◌∷◌, map, length, Option, Some, None, refl, sym, ap, subst, ◌∙◌, arith}
use Rattle.dlk_tree.specs.Trees.{Tree}
use Rattle.dlk_calculus.specs.Places.{At}
use Rattle.dlk_calculus.specs.Places.{at as item_at}
use Rattle.dlk_calculus.specs.Sequents.{Sequent}
use Rattle.dlk_calculus.specs.Provables.{Provable}
use Rattle.dlk_calculus.specs.Steps.{Step, Start, Gives}
use Rattle.dlk_rules.specs.declared.arguments.Side.{Side}
use Rattle.dlk_sequent.specs.declared.sequent.Place.{Place}
use Rattle.dlk_uses.specs.Uses.{formula_at}
use Rattle.dlk_derive.specs.Plans.{Call}
use Rattle.dlk_derive.specs.Derives.{DeriveWhy, Plans, NoPlan, use_of}
use Rattle.dlk_tacsyn.specs.Tactics.{AtPlace, Atom, Tactic, Choice, Sequence, Branch, Repeat, One, Tactics, no_parts, part, count}
use Rattle.dlk_elab.specs.declared.fault.FailWhy.{FailWhy}
use Rattle.dlk_elab.specs.declared.fault.FailWhy.TheVariants.{NoPlace}
use Rattle.dlk_strategy.specs.Runs.{Progress, Outcome, Done, Fails, Budget, Fate, Run, Follow, done, fails, spent, Ends, FailsAt, Then, Each, Again}
use Rattle.dlk_strategy.specs.Runs.{Once, main_goals, side, placed, formulas, Tries, TriesAll, RunAtomOn, RunAtom, Branched, as_many, another_count}
use Rattle.dlk_strategy.specs.Runs.{Runs, Alternatives, InTurn, OnOwn, RunsPlain}
use Rattle.dlk_strategy.specs.Runs.{OnEach, OneByOne, RunDerive, plans, no_plan, RunNamedBy, RunNamed, is_derive}
use Rattle.dlk_strategy.specs.Runs.{spent as derive_spent}
use Rattle.dlk_strategy.specs.Whys.{why_of}

-- at most one thing becomes of a goal
abbrev pub IsOne : Fate → Type 0
IsOne fate = (now : Progress) (a b : Outcome) → fate now a → fate now b → a ≡ b

one_end : (left : ℕ) → IsOne (Ends left)
one_end left now a b p q = p ∙ sym q

one_failure : (at : ℕ) (why : FailWhy) → IsOne (FailsAt at why)
one_failure at why now a b p q = p ∙ sym q

done_fails : (made : Progress) (left at used : ℕ) (why : FailWhy) → Done made left ≡ Fails at why used → ⊥
done_fails made left at used why e = cc e

done_spent : (made : Progress) (left at : ℕ) → Done made left ≡ Budget at → ⊥
done_spent made left at e = cc e

fails_spent : (at used at' : ℕ) (why : FailWhy) → Fails at why used ≡ Budget at' → ⊥
fails_spent at used at' why e = cc e

same_left : (made made' : Progress) (left left' : ℕ) → Done made left ≡ Done made' left' → left ≡ left'
same_left made made' left left' e = cc e

same_made : (made made' : Progress) (left left' : ℕ) → Done made left ≡ Done made' left' → made ≡ made'
same_made made made' left left' e = cc e

same_at : (at at' used used' : ℕ) (why why' : FailWhy) → Fails at why used ≡ Fails at' why' used' → at ≡ at'
same_at at at' used used' why why' e = cc e

same_why : (at at' used used' : ℕ) (why why' : FailWhy) → Fails at why used ≡ Fails at' why' used' → why ≡ why'
same_why at at' used used' why why' e = cc e

same_used : (at at' used used' : ℕ) (why why' : FailWhy) → Fails at why used ≡ Fails at' why' used' → used ≡ used'
same_used at at' used used' why why' e = cc e

pub one_follow : (fate : Fate) (then_on : ℕ → Fate) (else_on : ℕ → FailWhy → Fate) → IsOne fate → ((left : ℕ) → IsOne (then_on left)) →
    ((at : ℕ) (why : FailWhy) → IsOne (else_on at why)) → IsOne (Follow fate then_on else_on)
one_follow fate then_on else_on one one_then one_else now _ _ (done {left} {made} {outcome = a} p q) (done {left = left'} {made = made'} {outcome = b} p' q') =
    let e = one now (Done made left) (Done made' left') p p' in
    let moved = subst (λ (n : ℕ). then_on n made a) (same_left made made' left left' e) q in
    one_then left' made' a b (subst (λ (m : Progress). then_on left' m a) (same_made made made' left left' e) moved) q'
one_follow fate then_on else_on one one_then one_else now _ _ (done {left} {made} {outcome = a} p q) (fails {at} {why} {used} {outcome = b} p' q') =
    absurd (done_fails made left at used why (one now (Done made left) (Fails at why used) p p'))
one_follow fate then_on else_on one one_then one_else now _ _ (done {left} {made} {outcome = a} p q) (spent {at} p') =
    absurd (done_spent made left at (one now (Done made left) (Budget at) p p'))
one_follow fate then_on else_on one one_then one_else now _ _ (fails {at} {why} {used} {outcome = a} p q) (done {left} {made} {outcome = b} p' q') =
    absurd (done_fails made left at used why (one now (Done made left) (Fails at why used) p' p))
one_follow fate then_on else_on one one_then one_else now _ _ (fails {at} {why} {used} {outcome = a} p q)
    (fails {at = at'} {why = why'} {used = used'} {outcome = b} p' q') =
    let e = one now (Fails at why used) (Fails at' why' used') p p' in
    let by_at = subst (λ (n : ℕ). else_on n why (record now { used = used }) a) (same_at at at' used used' why why' e) q in
    let by_why = subst (λ (w : FailWhy). else_on at' w (record now { used = used }) a) (same_why at at' used used' why why' e) by_at in
    one_else at' why' (record now { used = used' }) a b
    (subst (λ (n : ℕ). else_on at' why' (record now { used = n }) a) (same_used at at' used used' why why' e) by_why) q'
one_follow fate then_on else_on one one_then one_else now _ _ (fails {at} {why} {used} {outcome = a} p q) (spent {at = at'} p') =
    absurd (fails_spent at used at' why (one now (Fails at why used) (Budget at') p p'))
one_follow fate then_on else_on one one_then one_else now _ _ (spent {at} p) (done {left} {made} {outcome = b} p' q') =
    absurd (done_spent made left at (one now (Done made left) (Budget at) p' p))
one_follow fate then_on else_on one one_then one_else now _ _ (spent {at} p) (fails {at = at'} {why} {used} {outcome = b} p' q') =
    absurd (fails_spent at' used at why (one now (Fails at' why used) (Budget at) p' p))
one_follow fate then_on else_on one one_then one_else now _ _ (spent {at} p) (spent {at = at'} p') = one now (Budget at) (Budget at') p p'

one_then : (fate : Fate) (next : ℕ → Fate) → IsOne fate → ((left : ℕ) → IsOne (next left)) → IsOne (Then fate next)
one_then fate next one others = one_follow fate next FailsAt one others one_failure

one_each : (run : Run) → ((goal : ℕ) → IsOne (run goal)) → (more goal left : ℕ) → IsOne (Each run more goal left)
one_each run one zero goal left = one_end left
one_each run one (suc more) goal left = one_then (run (goal + left)) (λ new. Each run more goal (left + new)) (one (goal + left))
    (λ new. one_each run one more goal (left + new))

one_again : (run : Run) → ((goal : ℕ) → IsOne (run goal)) → (times goal : ℕ) → IsOne (Again run times goal)
one_again run one zero goal = one_end 1
one_again run one (suc times) goal =
    one_follow (run goal) (λ left. Each (Again run times) left goal 0) (λ at why. Ends 1) (one goal)
    (λ left. one_each (Again run times) (one_again run one times) left goal 0) (λ at why. one_end 1)

one_branched : (at parts goals : ℕ) (each : Fate) → IsOne each → IsOne (Branched at parts goals each)
one_branched at parts goals each one now _ _ (as_many {outcome = a} e p) (as_many {outcome = b} e' p') = one now a b p p'
one_branched at parts goals each one now _ _ (as_many {outcome = a} e p) (another_count n) = absurd (n e)
one_branched at parts goals each one now _ _ (another_count n) (as_many {outcome = b} e p) = absurd (n e)
one_branched at parts goals each one now _ _ (another_count n) (another_count m) = refl

at_one : (goals : List Sequent) (goal : ℕ) (s t : Sequent) → At goals goal s → At goals goal t → s ≡ t
at_one goals goal s t p q = let e : item_at goals goal ≡ Some t = q in cc

-- the one argument of `derive`
same_place : (place other : Place) (path way : List ℕ) → AtPlace place path ∷ [] ≡ AtPlace other way ∷ [] → place ≡ other
same_place place other path way e = cc e

same_path : (place other : Place) (path way : List ℕ) → AtPlace place path ∷ [] ≡ AtPlace other way ∷ [] → path ≡ way
same_path place other path way e = cc e

-- what stands at equal places of equal goals
same_there : (P : Option Tree → List ℕ → Type 0) (s t : Sequent) (place other : Place) (path way : List ℕ) → s ≡ t →
    AtPlace place path ∷ [] ≡ AtPlace other way ∷ [] → P (formula_at s place) path → P (formula_at t other) way
same_there P s t place other path way goal e h =
    let moved : P (formula_at t place) path = subst (λ (r : Sequent). P (formula_at r place) path) goal h in
    let put : P (formula_at t other) path = subst (λ (p : Place). P (formula_at t p) path) (same_place place other path way e) moved in
    subst (λ (p : List ℕ). P (formula_at t other) p) (same_path place other path way e) put

-- where one run of an atom has one end, and of a place there is one plan or one reason
module _ (one_once : (atom : Atom) (goal : ℕ) → IsOne (Once atom goal))
    (one_plan : (there : Option Tree) (path : List ℕ) (a b : List Call) → Plans there path a → Plans there path b → a ≡ b)
    (one_why : (there : Option Tree) (path : List ℕ) (a b : DeriveWhy) → NoPlan there path a → NoPlan there path b → a ≡ b)
    (plan_or_why : (there : Option Tree) (path : List ℕ) (calls : List Call) (why : DeriveWhy) → Plans there path calls → NoPlan there path why → ⊥) where
  one_try : (atom : Atom) (goal more place : ℕ) (why : FailWhy) → IsOne (Tries atom goal more place why)
  one_try atom goal zero place why = one_failure atom.at why
  one_try atom goal (suc more) place why =
      one_follow (Once (placed place atom) goal) Ends (λ at last. Tries atom goal more (place + 1) last) (one_once (placed place atom) goal) one_end
      (λ at last. one_try atom goal more (place + 1) last)

  one_side : (atom : Atom) (on : Side) (goal : ℕ) → IsOne (TriesAll atom on goal)
  one_side atom on goal now a b p q =
      let same : p.0 ≡ q.0 = at_one (main_goals now.rows) goal p.0 q.0 p.1 q.1 in
      one_try atom goal (length (formulas on q.0)) 1 NoPlace now a b
      (subst (λ (s : Sequent). Tries atom goal (length (formulas on s)) 1 NoPlace now a) same p.2) q.2

  one_atom_on : (atom : Atom) (on : Option Side) (goal : ℕ) → IsOne (RunAtomOn atom on goal)
  one_atom_on atom None goal = one_once atom goal
  one_atom_on atom (Some on) goal = one_side atom on goal

  one_uses : (atoms : List Atom) (goals goal : ℕ) → IsOne (OneByOne atoms goals goal)
  one_uses [] goals goal = one_end goals
  one_uses (atom ∷ rest) goals goal =
      one_then (OnEach (RunAtom atom) goals goal) (λ left. OneByOne rest left goal)
      (one_each (RunAtom atom) (one_atom_on atom (side atom.arguments)) goals goal 0) (λ left. one_uses rest left goal)

  one_derive : (atom : Atom) (goal : ℕ) → IsOne (RunDerive atom goal)
  one_derive atom goal now _ _ (plans {outcome = a} s place path calls room stands at planned runs)
      (plans {outcome = b} s' place' path' calls' room' stands' at' planned' runs') =
      let goals : s ≡ s' = at_one (main_goals now.rows) goal s s' stands stands' in
      let args : AtPlace place path ∷ [] ≡ AtPlace place' path' ∷ [] = sym at ∙ at' in
      let moved = same_there (λ there way. Plans there way calls) s s' place place' path path' goals args planned in
      let same : calls ≡ calls' = one_plan (formula_at s' place') path' calls calls' moved planned' in
      let there : place ≡ place' = same_place place place' path path' args in
      let uses : map (use_of atom.at place) calls ≡ map (use_of atom.at place') calls' = λ i. map (use_of atom.at (there i)) (same i) in
      let next : Progress = record now { used = now.used + 1 } in
      one_uses (map (use_of atom.at place') calls') 1 goal next a b (subst (λ (atoms : List Atom). OneByOne atoms 1 goal next a) uses runs) runs'
  one_derive atom goal now _ _ (plans s place path calls room stands at planned runs) (no_plan s' place' path' why room' stands' at' none) =
      let goals : s ≡ s' = at_one (main_goals now.rows) goal s s' stands stands' in
      let moved = same_there (λ there way. Plans there way calls) s s' place place' path path' goals (sym at ∙ at') planned in
      absurd (plan_or_why (formula_at s' place') path' calls why moved none)
  one_derive atom goal now _ _ (plans s place path calls room stands at planned runs) (derive_spent full) = absurd (omega (arith, room, full))
  one_derive atom goal now _ _ (no_plan s' place' path' why room' stands' at' none) (plans s place path calls room stands at planned runs) =
      let goals : s ≡ s' = at_one (main_goals now.rows) goal s s' stands stands' in
      let moved = same_there (λ there way. Plans there way calls) s s' place place' path path' goals (sym at ∙ at') planned in
      absurd (plan_or_why (formula_at s' place') path' calls why moved none)
  one_derive atom goal now _ _ (no_plan s place path why room stands at none) (no_plan s' place' path' why' room' stands' at' none') =
      let goals : s ≡ s' = at_one (main_goals now.rows) goal s s' stands stands' in
      let moved = same_there (λ there way. NoPlan there way why) s s' place place' path path' goals (sym at ∙ at') none in
      ap (λ w. Fails atom.at (why_of w) (now.used + 1)) (one_why (formula_at s' place') path' why why' moved none')
  one_derive atom goal now _ _ (no_plan s place path why room stands at none) (derive_spent full) = absurd (omega (arith, room, full))
  one_derive atom goal now _ _ (derive_spent full) (plans s place path calls room stands at planned runs) = absurd (omega (arith, room, full))
  one_derive atom goal now _ _ (derive_spent full) (no_plan s place path why room stands at none) = absurd (omega (arith, room, full))
  one_derive atom goal now _ _ (derive_spent full) (derive_spent full') = refl

  one_named : (derives : Bool) (atom : Atom) (goal : ℕ) → IsOne (RunNamedBy derives atom goal)
  one_named true atom goal = one_derive atom goal
  one_named false atom goal = one_atom_on atom (side atom.arguments) goal

  mutual
    pub one_fate : (t : Tactic) (goals goal : ℕ) → IsOne (Runs t goals goal)
    one_fate (Choice parts) goals goal = one_each (Alternatives parts) (one_alternative parts) goals goal 0
    one_fate (Sequence parts) goals goal = one_each (InTurn parts 1) (one_turn parts 1) goals goal 0
    one_fate (Branch at parts) goals goal = one_branched at (count parts) goals (OnOwn parts goal 0) (one_own parts goal 0)
    one_fate (Repeat body times) goals goal = one_each (Again (Runs body 1) times) (one_again (Runs body 1) (one_fate body 1) times) goals goal 0
    one_fate (One atom) goals goal = one_each (RunNamed atom) (one_named (is_derive atom) atom) goals goal 0

    one_alternative : (parts : Tactics) (goal : ℕ) → IsOne (Alternatives parts goal)
    one_alternative no_parts goal = one_end 1
    one_alternative (part t no_parts) goal = one_fate t 1 goal
    one_alternative (part t (part u rest)) goal =
        one_follow (Runs t 1 goal) Ends (λ at why. Alternatives (part u rest) goal) (one_fate t 1 goal) one_end (λ at why. one_alternative (part u rest) goal)

    one_turn : (parts : Tactics) (goals goal : ℕ) → IsOne (InTurn parts goals goal)
    one_turn no_parts goals goal = one_end goals
    one_turn (part t rest) goals goal = one_then (Runs t goals goal) (λ left. InTurn rest left goal) (one_fate t goals goal) (λ left. one_turn rest left goal)

    one_own : (parts : Tactics) (goal left : ℕ) → IsOne (OnOwn parts goal left)
    one_own no_parts goal left = one_end left
    one_own (part t rest) goal left =
        one_then (Runs t 1 (goal + left)) (λ new. OnOwn rest goal (left + new)) (one_fate t 1 (goal + left)) (λ new. one_own rest goal (left + new))

  start : Tree → Step
  start formula = Start (record { ante = []; succ = formula ∷ [] })

  pub one_run : ((rows : List Provable) (step : Step) (p q : Provable) → Gives rows step p → Gives rows step q → p ≡ q) →
      (t : Tactic) (formula : Tree) (a b : Outcome) → RunsPlain t formula a → RunsPlain t formula b → a ≡ b
  unfolding start
  one_run one_given t formula a b p q =
      let same : p.provable ≡ q.provable = one_given [] (start formula) p.provable q.provable p.start.given q.start.given in
      one_fate t 1 1 (record { steps = start formula ∷ []; rows = q.provable ∷ []; used = 0 }) a b
      (subst (λ (r : Provable). Runs t 1 1 (record { steps = start formula ∷ []; rows = r ∷ []; used = 0 }) a) same p.run) q.run
