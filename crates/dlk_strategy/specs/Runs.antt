-- The runs of strategies: what a strategy makes of a goal, step by step.
pub use Rattle.dlk_elab.specs.Outcomes.{most_runs, Progress, Outcome, Done, Fails, Budget, main_goals}
use Rattle.std.specs.Prelude.{◌≡◌, ◌≢◌, ℕ, zero, suc, ◌+◌, ◌<◌, ◌≤◌, Bool, true, false, bytes_eq, codes, List, [], ◌∷◌, ◌++◌, map, length}
use Rattle.std.specs.Prelude.{Option, Some, None}
use Rattle.dlk_tree.specs.Trees.{Tree}
use Rattle.dlk_sequent.specs.declared.sequent.Place.{Place}
use Rattle.dlk_sequent.specs.declared.sequent.Place.TheVariants.{Ante, Succ}
use Rattle.dlk_calculus.specs.Places.{At}
use Rattle.dlk_calculus.specs.Sequents.{Sequent}
use Rattle.dlk_calculus.specs.Provables.{Provable}
use Rattle.dlk_calculus.specs.Steps.{Step, Start, StepOf}
use Rattle.dlk_rules.specs.declared.arguments.Side.{Side}
use Rattle.dlk_rules.specs.declared.arguments.Side.TheVariants.{Left, Right}
use Rattle.dlk_tacsyn.specs.Tactics.{Argument, AtPlace, AnyLeft, AnyRight, Word, GivenFormula, GivenTerm, GivenExtra, Atom, Tactic, Choice, Sequence}
use Rattle.dlk_tacsyn.specs.Tactics.{Branch, Repeat, One, Tactics, no_parts, part, count}
use Rattle.dlk_library.specs.Expanded.{Expanded}
use Rattle.dlk_uses.specs.Uses.{formula_at}
use Rattle.dlk_derive.specs.Plans.{Call}
use Rattle.dlk_derive.specs.Derives.{DeriveWhy, Plans, NoPlan, use_of}
use Rattle.dlk_elab.specs.Atoms.{AtomSteps, AtomFault}
use Rattle.dlk_elab.specs.declared.fault.FailWhy.{FailWhy}
use Rattle.dlk_elab.specs.declared.fault.FailWhy.TheVariants.{WrongCount, NoPlace}
use Rattle.dlk_strategy.specs.Whys.{why_of}

-- after what was made so far, what becomes of a goal
abbrev pub Fate : Type 1
Fate = Progress → Outcome → Type 0

-- what becomes of each goal of the main fact, by its number
abbrev pub Run : Type 1
Run = ℕ → Fate

-- Follow fate then else now outcome: where the first is done, it goes on from what is made. Where it fails, its steps are taken back, and it
-- goes on from what was made before, with the runs that were counted. A budget that is spent ends all: nothing follows it.
pub data Follow (fate : Fate) (then_on : ℕ → Fate) (else_on : ℕ → FailWhy → Fate) (now : Progress) : Outcome → Type 0 where
  done : {left : ℕ} {made : Progress} {outcome : Outcome} → fate now (Done made left) → then_on left made outcome → Follow fate then_on else_on now outcome
  fails : {at : ℕ} {why : FailWhy} {used : ℕ} {outcome : Outcome} → fate now (Fails at why used) → else_on at why (record now { used = used }) outcome →
      Follow fate then_on else_on now outcome
  spent : {at : ℕ} → fate now (Budget at) → Follow fate then_on else_on now (Budget at)

-- the run ends here, with so many goals in the goal's place
abbrev pub Ends : ℕ → Fate
Ends left now outcome = outcome ≡ Done now left

-- the run fails at this byte
abbrev pub FailsAt : ℕ → FailWhy → Fate
FailsAt at why now outcome = outcome ≡ Fails at why now.used

-- one run, and then, where it is done, another
abbrev pub Then : Fate → (ℕ → Fate) → Fate
Then fate next = Follow fate next FailsAt

-- one and, where it fails, another
abbrev pub Else : Fate → Fate → Fate
Else fate next = Follow fate Ends (λ at why. next)

-- The run on each of so many goals in turn, the first of them behind the `left` goals that stand from `goal` on. What one leaves stands in its
-- place, and the next one behind that.
abbrev pub Each : Run → ℕ → ℕ → ℕ → Fate
Each run zero goal left = Ends left
Each run (suc more) goal left = Then (run (goal + left)) (λ new. Each run more goal (left + new))

-- the run on so many goals, from this one on
abbrev pub OnEach : Run → ℕ → Run
OnEach run goals goal = Each run goals goal 0

-- again and again, so many times: on the goal, and one time less on each goal that this leaves; until it fails
abbrev pub Again : Run → ℕ → Run
Again run zero goal = Ends 1
Again run (suc times) goal = Follow (run goal) (λ left. Each (Again run times) left goal 0) (λ at why. Ends 1)

-- one run of an atom without a locator, which is counted
pub data Once (atom : Atom) (goal : ℕ) (now : Progress) : Outcome → Type 0 where
  steps : {steps : List Step} {rows : List Provable} {left : ℕ} → now.used < most_runs → AtomSteps now.rows (length now.rows) goal atom steps rows →
      length (main_goals rows) + 1 ≡ length (main_goals now.rows) + left →
      Once atom goal now (Done (record { steps = now.steps ++ steps; rows = rows; used = now.used + 1 }) left)
  fault : {why : _} → now.used < most_runs → AtomFault now.rows (length now.rows) goal atom why →
      Once atom goal now (Fails atom.at why (now.used + 1))
  spent : most_runs ≤ now.used → Once atom goal now (Budget atom.at)

abbrev pub formulas : Side → Sequent → List Tree
formulas Left s = s.ante
formulas Right s = s.succ

-- the side of a locator
abbrev pub side_of : Argument → Option Side
side_of (AtPlace place path) = None
side_of AnyLeft = Some Left
side_of AnyRight = Some Right
side_of (Word name) = None
side_of (GivenFormula h) = None
side_of (GivenTerm t) = None
side_of (GivenExtra extra) = None

-- the first, and where there is none the other
abbrev pub or_other : Option Side → Option Side → Option Side
or_other (Some side) other = Some side
or_other None other = other

-- the side of the first locator of these
abbrev pub side : List Argument → Option Side
side [] = None
side (argument ∷ rest) = or_other (side_of argument) (side rest)

-- the argument with this place for a locator
abbrev pub put_place : ℕ → Argument → Argument
put_place n (AtPlace place path) = AtPlace place path
put_place n AnyLeft = AtPlace (Ante n) []
put_place n AnyRight = AtPlace (Succ n) []
put_place n (Word name) = Word name
put_place n (GivenFormula h) = GivenFormula h
put_place n (GivenTerm t) = GivenTerm t
put_place n (GivenExtra extra) = GivenExtra extra

abbrev pub placed : ℕ → Atom → Atom
placed n atom = record { name = atom.name; arguments = map (put_place n) atom.arguments; at = atom.at }

-- The tries of so many places in order, from this one on: a run for each, until one doesn't fail. It fails as the last one does, and for this
-- reason where there is none.
abbrev pub Tries : Atom → ℕ → ℕ → ℕ → FailWhy → Fate
Tries atom goal zero place why = FailsAt atom.at why
Tries atom goal (suc more) place why = Follow (Once (placed place atom) goal) Ends (λ at last. Tries atom goal more (place + 1) last)

-- the tries of all places of a side of the goal
abbrev pub TriesAll : Atom → Side → Run
TriesAll atom on goal now outcome = (s : Sequent) × At (main_goals now.rows) goal s × Tries atom goal (length (formulas on s)) 1 NoPlace now outcome

abbrev pub RunAtomOn : Atom → Option Side → Run
RunAtomOn atom None = Once atom
RunAtomOn atom (Some on) = TriesAll atom on

-- an atom, of which the places are tried where it has a locator
abbrev pub RunAtom : Atom → Run
RunAtom atom = RunAtomOn atom (side atom.arguments)

-- atoms in turn, each on all goals that are left by those before, so many
abbrev pub OneByOne : List Atom → ℕ → Run
OneByOne [] goals goal = Ends goals
OneByOne (atom ∷ rest) goals goal = Then (OnEach (RunAtom atom) goals goal) (λ left. OneByOne rest left goal)

-- One run of `derive` at a place, which is counted: then the uses of the plan run in turn, each at the byte of the name and counted as well.
-- Where there is no plan, it fails for the reason why.
pub data RunDerive (atom : Atom) (goal : ℕ) (now : Progress) : Outcome → Type 0 where
  plans : {outcome : Outcome} (s : Sequent) (place : Place) (path : List ℕ) (calls : List Call) → now.used < most_runs →
      At (main_goals now.rows) goal s → atom.arguments ≡ AtPlace place path ∷ [] → Plans (formula_at s place) path calls →
      OneByOne (map (use_of atom.at place) calls) 1 goal (record now { used = now.used + 1 }) outcome → RunDerive atom goal now outcome
  no_plan : (s : Sequent) (place : Place) (path : List ℕ) (why : DeriveWhy) → now.used < most_runs → At (main_goals now.rows) goal s →
      atom.arguments ≡ AtPlace place path ∷ [] → NoPlan (formula_at s place) path why → RunDerive atom goal now (Fails atom.at (why_of why) (now.used + 1))
  spent : most_runs ≤ now.used → RunDerive atom goal now (Budget atom.at)

-- whether the name is `derive`
abbrev pub is_derive : Atom → Bool
is_derive atom = bytes_eq atom.name (codes "derive")

-- the run of a name, by whether it is `derive`
abbrev pub RunNamedBy : Bool → Atom → Run
RunNamedBy true atom = RunDerive atom
RunNamedBy false atom = RunAtom atom

-- `derive`, or an atom
abbrev pub RunNamed : Atom → Run
RunNamed atom = RunNamedBy (is_derive atom) atom

-- a branch on so many goals: as many as it has parts
pub data Branched (at parts goals : ℕ) (each : Fate) (now : Progress) : Outcome → Type 0 where
  as_many : {outcome : Outcome} → goals ≡ parts → each now outcome → Branched at parts goals each now outcome
  another_count : goals ≢ parts → Branched at parts goals each now (Fails at WrongCount now.used)

abbrev mutual
  -- a strategy on so many goals, from this one on: one case a combinator
  pub Runs : Tactic → ℕ → Run
  Runs (Choice parts) = OnEach (Alternatives parts)
  Runs (Sequence parts) = OnEach (InTurn parts 1)
  Runs (Branch at parts) = λ goals goal. Branched at (count parts) goals (OnOwn parts goal 0)
  Runs (Repeat body times) = OnEach (Again (Runs body 1) times)
  Runs (One atom) = OnEach (RunNamed atom)

  -- the first of these that doesn't fail, and else the last; where there are none, nothing is done
  pub Alternatives : Tactics → Run
  Alternatives no_parts = λ goal. Ends 1
  Alternatives (part t no_parts) = Runs t 1
  Alternatives (part t (part u rest)) = λ goal. Else (Runs t 1 goal) (Alternatives (part u rest) goal)

  -- each of these on all goals that are left by those before, so many
  pub InTurn : Tactics → ℕ → Run
  InTurn no_parts goals goal = Ends goals
  InTurn (part t rest) goals goal = Then (Runs t goals goal) (λ left. InTurn rest left goal)

  -- each of these on a goal of its own, the first of them behind the `left` goals that stand from `goal` on
  pub OnOwn : Tactics → ℕ → ℕ → Fate
  OnOwn no_parts goal left = Ends left
  OnOwn (part t rest) goal left = Then (Runs t 1 (goal + left)) (λ new. OnOwn rest goal (left + new))

-- RunsPlain strategy formula outcome: from the step that states the formula, what becomes of its one goal, where no name of the library stands in
-- the strategy
pub record RunsPlain (strategy : Tactic) (formula : Tree) (outcome : Outcome) : Type 0 where
  pub provable : Provable
  pub start : StepOf [] (Start (record { ante = []; succ = formula ∷ [] })) provable
  pub run : Runs strategy 1 1 (record { steps = Start (record { ante = []; succ = formula ∷ [] }) ∷ []; rows = provable ∷ []; used = 0 }) outcome

-- RunsModel strategy formula outcome: the same of each strategy. Names of the library run what they stand for.
pub record RunsModel (strategy : Tactic) (formula : Tree) (outcome : Outcome) : Type 0 where
  pub expansion : Tactic
  pub expanded : Expanded strategy expansion
  pub runs : RunsPlain expansion formula outcome

-- RunsOn strategy rows goal used outcome: what becomes of this goal of the last of these rows, where there were so many runs of atoms, and
-- of `derive`, before. The steps that it makes are new ones. Names of the library run what they stand for.
pub record RunsOn (strategy : Tactic) (rows : List Provable) (goal used : ℕ) (outcome : Outcome) : Type 0 where
  pub expansion : Tactic
  pub expanded : Expanded strategy expansion
  pub run : Runs expansion 1 goal (record { steps = []; rows = rows; used = used }) outcome

-- with these steps before those that were made
abbrev pub moved : List Step → Progress → Progress
moved before now = record now { steps = before ++ now.steps }

abbrev pub behind : List Step → Outcome → Outcome
behind before (Done made left) = Done (moved before made) left
behind before (Fails at why used) = Fails at why used
behind before (Budget at) = Budget at
