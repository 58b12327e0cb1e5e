-- What is added to words for a rule.
use Rattle.std.specs.Prelude.{◌≡◌, ℕ, List, ◌∷◌, ◌++◌}
use Rattle.dlk_tree.specs.Trees.{Tree}
use Rattle.dlk_calculus.specs.Rules.{word_of, arguments_of}
use Rattle.dlk_rules.specs.declared.arguments.Arguments.{Arguments}
use Rattle.dlk_rules.specs.declared.rule.Rule.{Rule}
use Rattle.dlk_rules.specs.Steps.{rule_at, RuleIsKnown}
use Rattle.dlk_rules.specs.Words.{arguments_at, ArgumentsAreKnown}
use Rattle.dlk_link.specs.Keys.{counted, AreArguments}

-- the words of the arguments come behind the old ones
abbrev pub AddsArguments : {N : Type 0} → (N → List ℕ) → List ℕ → List ℕ → Arguments N → Type 0
AddsArguments name old new arguments = (added : List ℕ) × (new ≡ old ++ added)
    × ((trees : List Tree) → ArgumentsAreKnown trees arguments → AreArguments trees (arguments_at name trees arguments) added)

-- the words of a rule on a goal do
abbrev pub AddsRule : List ℕ → List ℕ → ℕ → ℕ → Rule → Type 0
AddsRule old new fact goal rule = (trees : List Tree) → RuleIsKnown trees rule →
    (added : List ℕ) × (new ≡ old ++ (4 ∷ fact ∷ goal ∷ (counted (word_of (rule_at trees rule)) ++ added)))
    × AreArguments trees (arguments_of (rule_at trees rule)) added
