-- What contracts see of a session, and the state that it stands for.
use Rattle.std.specs.Prelude.{◌≡◌, ◌≤◌, ℕ, List, [], length, take, map, All, Option, Some, None, option_map}
use Rattle.dlk_tree.specs.Trees.{Tree}
use Rattle.dlk_calculus.specs.Limits.{most_rows}
use Rattle.dlk_rules.specs.declared.step.Step.{Step}
use Rattle.dlk_rules.specs.Steps.{step_at, HasKnownIds}
use Rattle.dlk_kernel.specs.Kernel.{State as KernelState, facts}
use Rattle.dlk_session.specs.Sessions.{State}
use Rattle.dlk_session.specs.Kept.{IsKept}

-- a session over a store
pub record Held (S : Type 0) : Type 0 where
  pub kernel : KernelState S
  pub steps : List Step
  pub earlier : List ℕ
  pub used : ℕ
  pub saved : Option (List Step)

-- the state that it stands for, by the trees of its store
abbrev pub state : {S : Type 0} → (S → List Tree) → Held S → State
state trees held = record {
  steps = map (step_at (trees held.kernel.store)) held.steps;
  rows = facts trees held.kernel;
  earlier = held.earlier;
  used = held.used;
  saved = option_map (map (step_at (trees held.kernel.store))) held.saved;
}

-- steps that were saved: their ids are those of the store, and they are no more than a kernel has rows
pub record IsSaved (trees : List Tree) (steps : List Step) : Type 0 where
  pub known : All (HasKnownIds trees) steps
  pub few : length steps ≤ most_rows

abbrev pub AreSaved : List Tree → Option (List Step) → Type 0
AreSaved trees None = Unit {0}
AreSaved trees (Some steps) = IsSaved trees steps

-- the steps that were saved, and none where nothing was
abbrev pub saved_steps : Option (List Step) → List Step
saved_steps None = []
saved_steps (Some steps) = steps

-- the first steps are those that were saved, so many
pub record AreShared (trees : List Tree) (count : ℕ) (steps : List Step) (saved : Option (List Step)) : Type 0 where
  pub within : count ≤ length steps
  pub there : count ≤ length (saved_steps saved)
  pub same : map (step_at trees) (take count (saved_steps saved)) ≡ map (step_at trees) (take count steps)

-- what the type keeps: the state is one that is kept, and the ids are those of the store
pub record IsHeld {S : Type 0} (trees : S → List Tree) (held : Held S) : Type 0 where
  pub kept : IsKept (state trees held)
  pub known : All (HasKnownIds (trees held.kernel.store)) held.steps
  pub saved : AreSaved (trees held.kernel.store) held.saved
