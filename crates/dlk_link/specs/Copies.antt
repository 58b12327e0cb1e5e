-- Steps over ids that stand for the same as others, whatever the ids stand for.
use Rattle.std.specs.Prelude.{◌≡◌, ℕ, List}
use Rattle.dlk_tree.specs.Trees.{Tree}
use Rattle.dlk_rules.specs.declared.arguments.Arguments.{Arguments}
use Rattle.dlk_rules.specs.declared.rule.Rule.{Rule}
use Rattle.dlk_rules.specs.declared.step.Step.{Step}
use Rattle.dlk_rules.specs.Steps.{rule_at, RuleIsKnown, step_at, HasKnownIds}
use Rattle.dlk_rules.specs.Words.{arguments_at, ArgumentsAreKnown}

-- the copy stands for the same arguments
pub record IsSameArguments {N : Type 0} (name : N → List ℕ) (arguments : Arguments N) (copy : Arguments (List ℕ)) : Type 0 where
  pub same : (trees : List Tree) → arguments_at (λ y. y) trees copy ≡ arguments_at name trees arguments
  pub known : (trees : List Tree) → ArgumentsAreKnown trees arguments → ArgumentsAreKnown trees copy

-- the same rule
pub record IsSameRule (rule copy : Rule) : Type 0 where
  pub same : (trees : List Tree) → rule_at trees copy ≡ rule_at trees rule
  pub known : (trees : List Tree) → RuleIsKnown trees rule → RuleIsKnown trees copy

-- the same step
pub record IsSameStep (step copy : Step) : Type 0 where
  pub same : (trees : List Tree) → step_at trees copy ≡ step_at trees step
  pub known : (trees : List Tree) → HasKnownIds trees step → HasKnownIds trees copy
