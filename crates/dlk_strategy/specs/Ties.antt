-- What a run over ids stands for.
pub use Rattle.dlk_elab.specs.Ties.{progress_at}
use Rattle.std.specs.Prelude.{◌≡◌, ◌≤◌, ℕ, ◌+◌, List, [], ◌∷◌, take, length, All, Option, Some, None, Result, Ok, Err}
use Rattle.dlk_tree.specs.Trees.{Tree}
use Rattle.dlk_sequent.specs.declared.sequent.Place.{Place}
use Rattle.dlk_calculus.specs.Limits.{most_goals}
use Rattle.dlk_calculus.specs.Places.{At}
use Rattle.dlk_calculus.specs.Provables.{Provable}
use Rattle.dlk_calculus.specs.Sequents.{Sequent}
use Rattle.dlk_rules.specs.Steps.{HasKnownIds}
use Rattle.dlk_kernel.specs.Kernel.{State, facts, ExtendsRows, SameRows}
use Rattle.dlk_tacsyn.specs.declared.tactic.Tactic.{Tactic}
use Rattle.dlk_tacsyn.specs.Tactics.{AtPlace, Atom as TreeAtom, Tactic as TreeTactic, Choice as TheChoice, Sequence, Branch as TheBranch}
use Rattle.dlk_tacsyn.specs.Tactics.{Repeat as TheRepeat, One as TheOne, Tactics, no_parts, part, count}
use Rattle.dlk_tacsyn.specs.Rows.{AreRun, AreOfText}
use Rattle.dlk_tacsyn.specs.Ties.{tactic_at, TacticIsKnown}
use Rattle.dlk_uses.specs.Uses.{formula_at}
use Rattle.dlk_derive.specs.Plans.{Call}
use Rattle.dlk_derive.specs.Derives.{Plans}
use Rattle.dlk_elab.specs.declared.fault.FailWhy.{FailWhy}
use Rattle.dlk_elab.specs.declared.outcome.OnFault.{OnFault}
use Rattle.dlk_elab.specs.declared.outcome.OnFault.TheVariants as on_fault
use Rattle.dlk_strategy.specs.declared.fault.RunFault.{RunFault}
use Rattle.dlk_strategy.specs.declared.fault.RunFault.TheVariants as fault
use Rattle.dlk_strategy.specs.declared.trace.Trace.{Trace}
use Rattle.dlk_strategy.specs.Runs.{Progress, Outcome, Done, Fails, Budget, Fate, Run, most_runs, main_goals, Runs, Alternatives, InTurn, OnOwn}
use Rattle.dlk_strategy.specs.Runs.{Branched, Again, RunNamed}

-- the fault is what becomes of a goal; want of memory is free
abbrev pub IsRunFaultOf : (Outcome → Type 0) → RunFault → Type 0
IsRunFaultOf becomes (fault.Fails at why) = (used : ℕ) × becomes (Fails at why used)
IsRunFaultOf becomes (fault.Budget at) = becomes (Budget at)
IsRunFaultOf becomes fault.Memory = Unit {0}

-- the fault of a run on a goal, where there were so many runs of atoms and of `derive`
abbrev pub with_runs : RunFault → ℕ → OnFault
with_runs (fault.Fails at why) used = on_fault.Fails at why used
with_runs (fault.Budget at) used = on_fault.Budget at
with_runs fault.Memory used = on_fault.Memory

-- what the kernel and the trace stand for
abbrev pub now : {S : Type 0} → (S → List Tree) → State S → Trace → Progress
now trees kernel trace = progress_at trees kernel trace.steps.items trace.used

-- the goals of the last row
abbrev pub goals_of : {S : Type 0} → (S → List Tree) → State S → ℕ
goals_of trees kernel = length (main_goals (facts trees kernel))

-- so many goals from this one on are goals of the last row, and there were no more runs than may be
pub record IsReady {S : Type 0} (trees : S → List Tree) (kernel : State S) (trace : Trace) (goal goals : ℕ) : Type 0 where
  pub known : All (HasKnownIds (trees kernel.store)) trace.steps.items
  pub first : 1 ≤ goal
  pub room : goal + goals ≤ goals_of trees kernel + 1
  pub few : goals_of trees kernel ≤ most_goals
  pub used : trace.used ≤ most_runs

-- what was made before comes first, and the count of runs has not fallen
pub record Extends {S : Type 0} (trees : S → List Tree) (old_kernel : State S) (old : Trace) (new_kernel : State S) (new : Trace) : Type 0 where
  pub rows : ExtendsRows trees old_kernel new_kernel
  pub steps : take (length old.steps.items) new.steps.items ≡ old.steps.items
  pub known : All (HasKnownIds (trees new_kernel.store)) new.steps.items
  pub counted : old.used ≤ new.used
  pub within : new.used ≤ most_runs

-- what was made before is all that is made, and the count of runs has not fallen
pub record IsBack {S : Type 0} (trees : S → List Tree) (old_kernel : State S) (old : Trace) (new_kernel : State S) (new : Trace) : Type 0 where
  pub rows : SameRows trees old_kernel new_kernel
  pub steps : new.steps.items ≡ old.steps.items
  pub counted : old.used ≤ new.used
  pub within : new.used ≤ most_runs

-- the strategy's ids are known, and its atoms those that a run meets
pub record IsRunnable (trees : List Tree) (t : Tactic) : Type 0 where
  pub known : TacticIsKnown trees t
  pub atoms : AreRun (tactic_at trees t)

-- the strategy's ids are known, and its atoms those of a text
pub record IsStrategy (trees : List Tree) (t : Tactic) : Type 0 where
  pub known : TacticIsKnown trees t
  pub of_text : AreOfText (tactic_at trees t)

-- the atom, where its name stands at this byte
abbrev pub at_byte : ℕ → TreeAtom → TreeAtom
at_byte byte atom = record { name = atom.name; arguments = atom.arguments; at = byte }

-- on this goal of the last row there is a plan for `derive`, at the place and the path that the atom is given
pub record HasPlan (rows : List Provable) (goal : ℕ) (atom : TreeAtom) : Type 0 where
  pub s : Sequent
  pub place : Place
  pub path : List ℕ
  pub calls : List Call
  pub stands : At (main_goals rows) goal s
  pub given : atom.arguments ≡ AtPlace place path ∷ []
  pub planned : Plans (formula_at s place) path calls

-- strategies in a list
abbrev pub tactics_of : List Tree → List Tactic → Tactics
tactics_of trees [] = no_parts
tactics_of trees (t ∷ rest) = part (tactic_at trees t) (tactics_of trees rest)

-- what becomes of a goal is what this answer says
abbrev pub Becomes : Fate → Progress → Progress → Result ℕ RunFault → Type 0
Becomes fate before after (Ok left) = fate before (Done after left)
Becomes fate before after (Err (fault.Fails at why)) = fate before (Fails at why after.used)
Becomes fate before after (Err (fault.Budget at)) = fate before (Budget at)
Becomes fate before after (Err fault.Memory) = Unit {0}

-- the same where a failure is told by no answer
abbrev pub BecomesTried : Fate → Progress → Progress → Result (Option ℕ) RunFault → Type 0
BecomesTried fate before after (Ok (Some left)) = fate before (Done after left)
BecomesTried fate before after (Ok None) = (at : ℕ) × (why : FailWhy) × fate before (Fails at why after.used)
BecomesTried fate before after (Err (fault.Fails at why)) = ⊥
BecomesTried fate before after (Err (fault.Budget at)) = fate before (Budget at)
BecomesTried fate before after (Err fault.Memory) = Unit {0}

-- so much holds where a goal is done or fails
abbrev pub UnlessOver : {T : Type 0} → Type 0 → Result T RunFault → Type 0
UnlessOver holds (Ok answer) = holds
UnlessOver holds (Err (fault.Fails at why)) = holds
UnlessOver holds (Err (fault.Budget at)) = Unit {0}
UnlessOver holds (Err fault.Memory) = Unit {0}

-- a failure leaves what was there
abbrev pub IsBackOnFailure : Type 0 → Result ℕ RunFault → Type 0
IsBackOnFailure back (Ok left) = Unit {0}
IsBackOnFailure back (Err (fault.Fails at why)) = back
IsBackOnFailure back (Err (fault.Budget at)) = Unit {0}
IsBackOnFailure back (Err fault.Memory) = Unit {0}

-- none leaves what was there
abbrev pub IsBackOnNone : Type 0 → Result (Option ℕ) RunFault → Type 0
IsBackOnNone back (Ok (Some left)) = Unit {0}
IsBackOnNone back (Ok None) = back
IsBackOnNone back (Err e) = Unit {0}

-- there are as many goals as the answer says
abbrev pub HasLeft : (before goals after : ℕ) → ℕ → Type 0
HasLeft before goals after left = after + goals ≡ before + left

-- a strategy on one goal
abbrev pub on_one : TreeTactic → Run
on_one (TheChoice parts) = Alternatives parts
on_one (Sequence parts) = InTurn parts 1
on_one (TheBranch at parts) = λ goal. Branched at (count parts) 1 (OnOwn parts goal 0)
on_one (TheRepeat body times) = Again (Runs body 1) times
on_one (TheOne atom) = RunNamed atom
