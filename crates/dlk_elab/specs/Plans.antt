-- What plans over ids stand for.
use Rattle.std.specs.Prelude.{◌≡◌, ℕ, List, map, All}
use Rattle.dlk_tree.specs.Trees.{Tree}
use Rattle.dlk_store.specs.declared.Id.{Id}
use Rattle.dlk_store.specs.Stores.{IsId, tree, StandsFor}
use Rattle.dlk_calculus.specs.Notation.{box}
use Rattle.dlk_calculus.specs.Rules.{Rule as TreeRule, imply}
use Rattle.dlk_calculus.specs.Sequents.{Sequent}
use Rattle.dlk_calculus.specs.Steps.{Step as TreeStep}
use Rattle.dlk_rules.specs.declared.rule.Rule.{Rule}
use Rattle.dlk_rules.specs.declared.step.Step.{Step}
use Rattle.dlk_rules.specs.Steps.{rule_at, step_at, HasKnownIds}
use Rattle.dlk_uses.specs.Uses.{Spot as TreeSpot}
use Rattle.dlk_elab.specs.declared.boxes.Boxed.{Boxed}
use Rattle.dlk_elab.specs.declared.boxes.Cut.{Cut}
use Rattle.dlk_elab.specs.declared.plan.Target.{Target}
use Rattle.dlk_elab.specs.declared.spot.Spot.{Spot}

-- the steps are these over a store, and their ids are those of the store
pub record ArePlanned (trees : List Tree) (steps : List Step) (wanted : List TreeStep) : Type 0 where
  pub are : map (step_at trees) steps ≡ wanted
  pub known : All (HasKnownIds trees) steps

-- each goal with the rule over the trees of its id
abbrev pub goals_and_rules : List Tree → List (ℕ × Rule) → List (ℕ × TreeRule)
goals_and_rules trees rules = map (λ (r : ℕ × Rule). (r.0, rule_at trees r.1)) rules

-- the goal of the fact, which is this sequent
abbrev pub spot_at : Spot → Sequent → TreeSpot
spot_at spot s = record { fact = spot.fact; goal = spot.goal; s = s }

abbrev pub goal_at : Target → Sequent → TreeSpot
goal_at target s = record { fact = target.fact; goal = target.goal; s = s }

-- the trees for a cut of a box with the formula h
pub record AreCutTrees (trees : List Tree) (boxed : Boxed) (h : Id) (cut : Cut) : Type 0 where
  pub formula_is : cut.formula ≡ h
  pub known : IsId trees cut.formula
  pub of_formula : StandsFor trees cut.boxed (box (tree trees boxed.program) (tree trees h))
  pub implied : StandsFor trees cut.implied (imply (tree trees h) (tree trees boxed.formula))
  pub box_implied : StandsFor trees cut.box_implied (box (tree trees boxed.program) (imply (tree trees h) (tree trees boxed.formula)))
