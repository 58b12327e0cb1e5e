-- Something becomes of a goal.
use Rattle.std.proofs.Common.{◌≡◌, ℕ, zero, suc, ◌+◌, ◌≤◌, Bool, true, false, List, [], ◌∷◌, ◌++◌, map, length, Option, Some, None, refl, sym, arith}
use Rattle.std.proofs.Common.{◌⊎◌, inl, inr}
use Rattle.std.specs.List.{All}
use Rattle.std.proofs.lemmas.List.Elements.{All-nil, All-cons, All-head, All-tail}
use Rattle.std.proofs.lemmas.Bool.{cases_lt, cases_order}
use Rattle.dlk_tree.specs.Trees.{Tree}
use Rattle.dlk_calculus.specs.Limits.{IsSmall, IsShallow}
use Rattle.dlk_calculus.specs.Sequents.{Sequent, alone_right, IsFormula}
use Rattle.dlk_calculus.specs.Provables.{Provable, HasFormulas, started}
use Rattle.dlk_calculus.specs.Steps.{Step, Start}
use Rattle.dlk_kernel.specs.Taken.{Takes}
use Rattle.dlk_kernel.specs.Taken.{none as no_step, more as one_step}
use Rattle.dlk_rules.specs.declared.arguments.Side.{Side}
use Rattle.dlk_tacsyn.specs.Tactics.{Atom, Tactic, Choice, Sequence, Branch, Repeat, One, Tactics, no_parts, part, count, EachAtom, EachAtomOf}
use Rattle.dlk_tacsyn.specs.Rows.{IsFitting, IsDerivation, IsRun}
use Rattle.dlk_sequent.specs.declared.sequent.Place.{Place}
use Rattle.dlk_uses.specs.Uses.{formula_at}
use Rattle.dlk_derive.specs.Plans.{Call}
use Rattle.dlk_derive.specs.Derives.{DeriveWhy, Plans, NoPlan, use_of}
use Rattle.dlk_elab.specs.Atoms.{AtomSteps, AtomFault, HasGoalAt, HasNoLocator, HasNames}
use Rattle.dlk_elab.specs.declared.fault.FailWhy.{FailWhy}
use Rattle.dlk_elab.specs.declared.fault.FailWhy.TheVariants.{WrongCount, NoPlace}
use Rattle.dlk_strategy.specs.Whys.{why_of}
use Rattle.dlk_strategy.specs.Runs.{Progress, Outcome, Done, Fails, Budget, Fate, Run, Follow, done, fails, spent, Ends, FailsAt, Each, Again, Once, steps}
use Rattle.dlk_strategy.specs.Runs.{fault, most_runs, main_goals, side, placed, formulas, Tries, RunAtomOn}
use Rattle.dlk_strategy.specs.Runs.{RunAtom, Branched, as_many, another_count, Runs, Alternatives, InTurn, OnOwn, RunsPlain}
use Rattle.dlk_strategy.specs.Runs.{OnEach, OneByOne, RunDerive, plans, no_plan, RunNamedBy, RunNamed, is_derive}
use Rattle.dlk_strategy.specs.Runs.{spent as once_spent}
use Rattle.dlk_strategy.proofs.Derivations.{derivation_place, by_name, by_other}
use Rattle.dlk_strategy.proofs.FixedAtoms.{none_fixed, placed_fixed, placed_fitting, all_named}
use Rattle.dlk_strategy.proofs.Starting.{starts}
use Rattle.dlk_strategy.proofs.States.{goal_there, at_place, counted}
use Rattle.dlk_strategy.proofs.TakenSteps.{IsTaken, taken_on}

-- An atom that is fitting, with names that are names, and one that a run meets.

record IsAtom (atom : Atom) : Type 0 where
  fitting : IsFitting atom
  names : HasNames atom

pub record IsNamedRun (atom : Atom) : Type 0 where
  pub run : IsRun atom
  pub names : HasNames atom

placed_run : (n : ℕ) (atom : Atom) → IsAtom atom → IsAtom (placed n atom)
placed_run n atom h = record { fitting = placed_fitting n atom h.fitting; names = all_named n atom.arguments h.names }

-- What becomes of so many goals, of so many in all, and how many stand in their place. What is made is taken.

abbrev goals_in : Progress → ℕ
goals_in now = length (main_goals now.rows)

abbrev Leaves : ℕ → ℕ → Outcome → Type 0
Leaves goals before (Done made left) = (goals_in made + goals ≡ before + left) × IsTaken made
Leaves goals before (Fails at why used) = Unit {0}
Leaves goals before (Budget at) = Unit {0}

leaves_as : (goals before more earlier : ℕ) → before + more ≡ earlier + goals → (o : Outcome) → Leaves goals before o → Leaves more earlier o
leaves_as goals before more earlier e (Done made left) h = let n = h.0 in (omega (arith, e, n), h.1)
leaves_as goals before more earlier e (Fails at why used) h = tt
leaves_as goals before more earlier e (Budget at) h = tt

abbrev HasFate : ℕ → Fate → Progress → Type 0
HasFate goals fate now = (o : Outcome) × fate now o × Leaves goals (goals_in now) o

-- on the goals behind which these stand
abbrev IsSome : ℕ → ℕ → Fate → Type 0
IsSome goals room fate = (now : Progress) → IsTaken now → room ≤ goals_in now + 1 → HasFate goals fate now

abbrev IsSomeRun : Run → Type 0
IsSomeRun run = (goal : ℕ) → 1 ≤ goal → IsSome 1 (goal + 1) (run goal)

some_follow : (first goals : ℕ) (fate : Fate) (then_on : ℕ → Fate) (else_on : ℕ → FailWhy → Fate) (now : Progress) (o : Outcome) →
    fate now o → Leaves first (goals_in now) o →
    ((left : ℕ) (made : Progress) → IsTaken made → goals_in made + first ≡ goals_in now + left →
    (p : Outcome) × then_on left made p × Leaves goals (goals_in now) p) →
    ((at used : ℕ) (why : FailWhy) → HasFate goals (else_on at why) (record now { used = used })) → HasFate goals (Follow fate then_on else_on) now
some_follow first goals fate then_on else_on now (Done made left) f leaves some_then some_else =
    let next = some_then left made leaves.1 leaves.0 in (next.0, done f next.1, next.2)
some_follow first goals fate then_on else_on now (Fails at why used) f leaves some_then some_else =
    let next = some_else at used why in (next.0, fails f next.1, next.2)
some_follow first goals fate then_on else_on now (Budget at) f leaves some_then some_else = (Budget at, spent f, tt)

some_failure : (goals at : ℕ) (why : FailWhy) (now : Progress) → HasFate goals (FailsAt at why) now
some_failure goals at why now = (Fails at why now.used, refl, tt)

some_each : (run : Run) → IsSomeRun run → (more goal left : ℕ) → 1 ≤ goal → IsSome (left + more) (goal + left + more) (Each run more goal left)
some_each run some zero goal left first now taken room = (Done now left, refl, (omega arith, taken))
some_each run some (suc more) goal left first now taken room =
    let here = some (goal + left) (omega (arith, first)) now taken (omega (arith, room)) in
    some_follow 1 (left + suc more) (run (goal + left)) (λ new. Each run more goal (left + new)) FailsAt now here.0 here.1 here.2
    (λ new made is_taken e.
    let rest = some_each run some more goal (left + new) first made is_taken (omega (arith, room, e)) in
    (rest.0, rest.1, leaves_as (left + new + more) (goals_in made) (left + suc more) (goals_in now) (omega (arith, e)) rest.0 rest.2))
    (λ at used why. some_failure (left + suc more) at why (record now { used = used }))

-- none stands before them
some_first : (goal goals : ℕ) (fate : Fate) → IsSome (0 + goals) (goal + 0 + goals) fate → IsSome goals (goal + goals) fate
some_first goal goals fate some now taken room =
    let all = some now taken (omega (arith, room)) in
    (all.0, all.1, leaves_as (0 + goals) (goals_in now) goals (goals_in now) (omega arith) all.0 all.2)

-- the run on each of so many goals from this one on
some_on_each : (run : Run) → IsSomeRun run → (goals goal : ℕ) → 1 ≤ goal → IsSome goals (goal + goals) (Each run goals goal 0)
some_on_each run some goals goal first = some_first goal goals (Each run goals goal 0) (some_each run some goals goal 0 first)

some_again : (run : Run) → IsSomeRun run → (times : ℕ) → IsSomeRun (Again run times)
some_again run some zero goal first now taken room = (Done now 1, refl, (refl, taken))
some_again run some (suc times) goal first now taken room =
    let here = some goal first now taken room in
    some_follow 1 1 (run goal) (λ left. Each (Again run times) left goal 0) (λ at why. Ends 1) now here.0 here.1 here.2
    (λ left made is_taken e.
    let rest = some_on_each (Again run times) (some_again run some times) left goal first made is_taken (omega (arith, room, e)) in
    (rest.0, rest.1, leaves_as left (goals_in made) 1 (goals_in now) (omega (arith, e)) rest.0 rest.2))
    (λ at used why. (Done (record now { used = used }) 1, refl, (refl, taken)))

some_branched : (at parts goals goal : ℕ) (each : Fate) → IsSome parts (goal + parts) each → IsSome goals (goal + goals) (Branched at parts goals each)
some_branched at parts goals goal each some now taken room =
    elim (cases_order goals parts) [
      | inl same ↦
          let all = some now taken (omega (arith, room, same)) in
          (all.0, as_many same all.1, leaves_as parts (goals_in now) goals (goals_in now) (omega (arith, same)) all.0 all.2)
      | inr other ↦ (
        Fails at WrongCount now.used,
        another_count (λ e. elim other [ inl less ↦ absurd (omega (arith, less, e)) | inr more ↦ absurd (omega (arith, more, e)) ]),
        tt,
      )
    ]

-- where a fitting atom gives steps or has a fault on rows of formulas
module _ (atom_taken : (rows : List Provable) (fact goal : ℕ) (atom : Atom) (steps : List Step) (after : List Provable) →
    AtomSteps rows fact goal atom steps after → Takes rows steps after)
    (taken_formulas : (steps : List Step) (rows : List Provable) → Takes [] steps rows → All HasFormulas rows)
    (some_atom : (rows : List Provable) (fact goal : ℕ) (atom : Atom) → HasGoalAt rows fact goal → All HasFormulas rows → IsFitting atom → HasNoLocator atom →
    HasNames atom →
    ((s : List Step) × (a : List Provable) × AtomSteps rows fact goal atom s a) ⊎ ((why : FailWhy) × AtomFault rows fact goal atom why)) where
  some_once : (atom : Atom) → IsAtom atom → HasNoLocator atom → IsSomeRun (Once atom)
  some_once atom is fixed goal first now taken room =
      elim (cases_lt now.used most_runs) [
        | inl free ↦
            let formulas_there = taken_formulas now.steps now.rows taken in
            let here = goal_there now.rows (length now.rows) goal refl first room in
            elim (some_atom now.rows (length now.rows) goal atom here formulas_there is.fitting fixed is.names) [
              | inl made ↦
                  let new = counted now.rows made.1 goal atom made.0 first room made.2 in (
                    Done (record { steps = now.steps ++ made.0; rows = made.1; used = now.used + 1 }) new.0,
                    steps free made.2 new.1,
                    (new.1, taken_on atom_taken now goal atom made.0 made.1 taken made.2),
                  )
              | inr fault_there ↦ (Fails atom.at fault_there.0 (now.used + 1), fault free fault_there.1, tt)
            ]
        | inr full ↦ (Budget atom.at, once_spent full, tt)
      ]

  some_try : (atom : Atom) → IsAtom atom → (goal : ℕ) → 1 ≤ goal → (more place : ℕ) (why : FailWhy) → IsSome 1 (goal + 1) (Tries atom goal more place why)
  some_try atom is goal first zero place why now taken room = some_failure 1 atom.at why now
  some_try atom is goal first (suc more) place why now taken room =
      let here = some_once (placed place atom) (placed_run place atom is) (placed_fixed place atom) goal first now taken room in
      some_follow 1 1 (Once (placed place atom) goal) Ends (λ at last. Tries atom goal more (place + 1) last) now here.0 here.1 here.2
      (λ left made is_taken e. (Done made left, refl, (e, is_taken)))
      (λ at used last. some_try atom is goal first more (place + 1) last (record now { used = used }) taken room)

  some_run : (atom : Atom) → IsAtom atom → (on : Option Side) → (on ≡ side atom.arguments) → IsSomeRun (RunAtomOn atom on)
  some_run atom is None e goal first now taken room = some_once atom is (none_fixed atom.arguments (sym e)) goal first now taken room
  some_run atom is (Some on) e goal first now taken room =
      let here = at_place (main_goals now.rows) goal first (omega (arith, room)) in
      let tried = some_try atom is goal first (length (formulas on here.0)) 1 NoPlace now taken room in
      (tried.0, (here.0, here.1, tried.1), tried.2)

  some_uses : (atoms : List Atom) → All IsAtom atoms → (goals goal : ℕ) → 1 ≤ goal → IsSome goals (goal + goals) (OneByOne atoms goals goal)
  some_uses [] are goals goal first now taken room = (Done now goals, refl, (refl, taken))
  some_uses (atom ∷ rest) are goals goal first now taken room =
      let is = All-head IsAtom atom rest are in
      let here = some_on_each (RunAtom atom) (some_run atom is (side atom.arguments) refl) goals goal first now taken room in
      some_follow goals goals (OnEach (RunAtom atom) goals goal) (λ left. OneByOne rest left goal) FailsAt now here.0 here.1 here.2
      (λ left made is_taken e.
      let others = some_uses rest (All-tail IsAtom atom rest are) left goal first made is_taken (omega (arith, room, e)) in
      (others.0, others.1, leaves_as left (goals_in made) goals (goals_in now) (omega (arith, e)) others.0 others.2))
      (λ at used why. some_failure goals at why (record now { used = used }))

  -- where of each place there is a plan or a reason, and the uses of a plan are fitting, with names that are names
  module _ (some_plan : (there : Option Tree) (path : List ℕ) →
      ((calls : List Call) × Plans there path calls) ⊎ ((why : DeriveWhy) × NoPlan there path why))
      (use_fits : (byte : ℕ) (place : Place) (call : Call) → IsFitting (use_of byte place call))
      (plan_names : (there : Option Tree) (path : List ℕ) (calls : List Call) → Plans there path calls → (byte : ℕ) (place : Place) →
      All HasNames (map (use_of byte place) calls)) where
    uses_run : (byte : ℕ) (place : Place) (calls : List Call) → All HasNames (map (use_of byte place) calls) →
        All IsAtom (map (use_of byte place) calls)
    uses_run byte place [] names = All-nil IsAtom
    uses_run byte place (call ∷ rest) names =
        let atom = use_of byte place call in
        let others = map (use_of byte place) rest in
        let one : IsAtom atom = record { fitting = use_fits byte place call; names = All-head HasNames atom others names } in
        All-cons IsAtom atom others one (uses_run byte place rest (All-tail HasNames atom others names))

    some_derive : (atom : Atom) → IsDerivation atom → IsSomeRun (RunDerive atom)
    some_derive atom is goal first now taken room =
        elim (cases_lt now.used most_runs) [
          | inl free ↦
              let here = at_place (main_goals now.rows) goal first (omega (arith, room)) in
              let at = derivation_place atom is in
              elim (some_plan (formula_at here.0 at.0) at.1) [
                | inl planned ↦
                    let atoms = uses_run atom.at at.0 planned.0 (plan_names (formula_at here.0 at.0) at.1 planned.0 planned.1 atom.at at.0) in
                    let next : Progress = record now { used = now.used + 1 } in
                    let all = some_uses (map (use_of atom.at at.0) planned.0) atoms 1 goal first next taken room in
                    (all.0, plans here.0 at.0 at.1 planned.0 free here.1 at.2 planned.1 all.1, all.2)
                | inr none ↦
                    (Fails atom.at (why_of none.0) (now.used + 1), no_plan here.0 at.0 at.1 none.0 free here.1 at.2 none.1, tt)
              ]
          | inr full ↦ (Budget atom.at, once_spent full, tt)
        ]

    some_named : (atom : Atom) → IsNamedRun atom → (derives : Bool) → derives ≡ is_derive atom → IsSomeRun (RunNamedBy derives atom)
    some_named atom is true e = some_derive atom (by_name atom is.run (sym e))
    some_named atom is false e =
        some_run atom (record { fitting = by_other atom is.run (sym e); names = is.names }) (side atom.arguments) refl

    mutual
      pub some_fate : (t : Tactic) → EachAtom IsNamedRun t → (goals goal : ℕ) → 1 ≤ goal → IsSome goals (goal + goals) (Runs t goals goal)
      some_fate (Choice parts) is goals goal first = some_on_each (Alternatives parts) (some_alternative parts is) goals goal first
      some_fate (Sequence parts) is goals goal first = some_on_each (InTurn parts 1) (some_turn parts is 1) goals goal first
      some_fate (Branch at parts) is goals goal first =
          some_branched at (count parts) goals goal (OnOwn parts goal 0) (some_first goal (count parts) (OnOwn parts goal 0) (some_own parts is goal 0 first))
      some_fate (Repeat body times) is goals goal first =
          some_on_each (Again (Runs body 1) times) (some_again (Runs body 1) (some_fate body is 1) times) goals goal first
      some_fate (One atom) is goals goal first = some_on_each (RunNamed atom) (some_named atom is (is_derive atom) refl) goals goal first

      some_alternative : (parts : Tactics) → EachAtomOf IsNamedRun parts → IsSomeRun (Alternatives parts)
      some_alternative no_parts is goal first now taken room = (Done now 1, refl, (refl, taken))
      some_alternative (part t no_parts) is goal first now taken room = some_fate t is.0 1 goal first now taken room
      some_alternative (part t (part u rest)) is goal first now taken room =
          let here = some_fate t is.0 1 goal first now taken room in
          some_follow 1 1 (Runs t 1 goal) Ends (λ at why. Alternatives (part u rest) goal) now here.0 here.1 here.2
          (λ left made is_taken e. (Done made left, refl, (e, is_taken)))
          (λ at used why. some_alternative (part u rest) is.1 goal first (record now { used = used }) taken room)

      some_turn : (parts : Tactics) → EachAtomOf IsNamedRun parts → (goals goal : ℕ) → 1 ≤ goal → IsSome goals (goal + goals) (InTurn parts goals goal)
      some_turn no_parts is goals goal first now taken room = (Done now goals, refl, (refl, taken))
      some_turn (part t rest) is goals goal first now taken room =
          let here = some_fate t is.0 goals goal first now taken room in
          some_follow goals goals (Runs t goals goal) (λ left. InTurn rest left goal) FailsAt now here.0 here.1 here.2
          (λ left made is_taken e.
          let others = some_turn rest is.1 left goal first made is_taken (omega (arith, room, e)) in
          (others.0, others.1, leaves_as left (goals_in made) goals (goals_in now) (omega (arith, e)) others.0 others.2))
          (λ at used why. some_failure goals at why (record now { used = used }))

      some_own : (parts : Tactics) → EachAtomOf IsNamedRun parts → (goal left : ℕ) → 1 ≤ goal →
          IsSome (left + count parts) (goal + left + count parts) (OnOwn parts goal left)
      some_own no_parts is goal left first now taken room = (Done now left, refl, (omega arith, taken))
      some_own (part t rest) is goal left first now taken room =
          let here = some_fate t is.0 1 (goal + left) (omega (arith, first)) now taken (omega (arith, room)) in
          some_follow 1 (left + (count rest + 1)) (Runs t 1 (goal + left)) (λ new. OnOwn rest goal (left + new)) FailsAt now here.0 here.1 here.2
          (λ new made is_taken e.
          let others = some_own rest is.1 goal (left + new) first made is_taken (omega (arith, room, e)) in
          let counts : goals_in made + (left + (count rest + 1)) ≡ goals_in now + (left + new + count rest) = omega (arith, e) in
          (others.0, others.1, leaves_as (left + new + count rest) (goals_in made) (left + (count rest + 1)) (goals_in now) counts others.0 others.2))
          (λ at used why. some_failure (left + (count rest + 1)) at why (record now { used = used }))

    pub some_model : (t : Tactic) (formula : Tree) → EachAtom IsNamedRun t → IsFormula formula → IsSmall formula → IsShallow formula →
        (o : Outcome) × RunsPlain t formula o
    some_model t formula is formed small shallow =
        let s : Sequent = alone_right formula in
        let first : Progress = record { steps = Start s ∷ []; rows = started s ∷ []; used = 0 } in
        let begins = starts formula formed small shallow in
        let taken : IsTaken first = one_step no_step begins in
        let all = some_fate t is 1 1 (omega arith) first taken (omega arith) in
        (all.0, record { provable = started s; start = begins; run = all.1 })

mutual
  pub both : (t : Tactic) → EachAtom IsRun t → EachAtom HasNames t → EachAtom IsNamedRun t
  both (Choice parts) f n = both_of parts f n
  both (Sequence parts) f n = both_of parts f n
  both (Branch at parts) f n = both_of parts f n
  both (Repeat body times) f n = both body f n
  both (One atom) f n = record { run = f; names = n }

  both_of : (parts : Tactics) → EachAtomOf IsRun parts → EachAtomOf HasNames parts → EachAtomOf IsNamedRun parts
  both_of no_parts f n = tt
  both_of (part t rest) f n = (both t f.0 n.0, both_of rest f.1 n.1)
