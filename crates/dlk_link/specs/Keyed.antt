-- Kept steps with their keys.
use Rattle.std.specs.Prelude.{◌≡◌, ◌+◌, ℕ, List, [], ◌∷◌, ◌++◌, length, map, All}
use Rattle.std.specs.List.{Contains}
use Rattle.dlk_tree.specs.Trees.{Tree}
use Rattle.dlk_calculus.specs.Places.{At}
use Rattle.dlk_rules.specs.declared.step.Step.{Step}
use Rattle.dlk_rules.specs.Steps.{step_at, HasKnownIds}
use Rattle.dlk_link.specs.Keys.{IsKey}

-- each step has ids of the store, and the key of its number
pub record AreKeyed (trees : List Tree) (steps : List Step) (keys : List (List ℕ)) : Type 0 where
  pub count : length keys ≡ length steps
  pub keyed : (place : ℕ) (step : Step) (key : List ℕ) → At steps place step → At keys place key → IsKey trees (step_at trees step) key
  pub known : All (HasKnownIds trees) steps

-- Numbers trees old step new n: among the old steps, or new behind them, the step has this number
pub data Numbers (trees : List Tree) (old : List Step) (step : Step) : List Step → ℕ → Type 0 where
  is_there : {n : ℕ} → At (map (step_at trees) old) n (step_at trees step) → Numbers trees old step old n
  is_new : ¬ Contains (map (step_at trees) old) (step_at trees step) → Numbers trees old step (old ++ step ∷ []) (length old + 1)
