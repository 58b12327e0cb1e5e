-- The words that are made for a rule are its key.
use Rattle.std.proofs.Common.{◌≡◌, ℕ, List, [], ◌∷◌, ◌++◌, sym, ap, subst, ◌∙◌, append_assoc}
use Rattle.dlk_tree.specs.Trees.{Tree}
use Rattle.dlk_calculus.specs.Rules.{word_of, arguments_of}
use Rattle.dlk_rules.specs.declared.arguments.Arguments.{Arguments}
use Rattle.dlk_rules.specs.declared.rule.Rule.{Rule}
use Rattle.dlk_rules.specs.declared.step.Step.{Step}
use Rattle.dlk_rules.specs.declared.step.Step.TheVariants as step
use Rattle.dlk_rules.specs.Steps.{rule_at, RuleIsKnown, step_at, HasKnownIds}
use Rattle.dlk_rules.specs.Words.{arguments_at, ArgumentsAreKnown}
use Rattle.dlk_link.specs.Keys.{counted, AreArguments, IsKey}
use Rattle.dlk_link.specs.RuleWords.{AddsRule, AddsArguments}

pub adds_rule : {N : Type 0} (name : N → List ℕ) (fact goal : ℕ) (rule : Rule) (arguments : Arguments N) (text old mid new : List ℕ) →
    mid ≡ old ++ (4 ∷ fact ∷ goal ∷ counted text) →
    ((trees : List Tree) → text ≡ word_of (rule_at trees rule)) →
    ((trees : List Tree) → arguments_at name trees arguments ≡ arguments_of (rule_at trees rule)) →
    ((trees : List Tree) → RuleIsKnown trees rule → ArgumentsAreKnown trees arguments) → AddsArguments name mid new arguments → AddsRule old new fact goal rule
adds_rule name fact goal rule arguments text old mid new mid_is text_is arguments_are known adds trees h =
    let whole : new ≡ old ++ (4 ∷ fact ∷ goal ∷ (counted text ++ adds.0)) =
    adds.1 ∙ ap (λ l. l ++ adds.0) mid_is ∙ append_assoc old (4 ∷ fact ∷ goal ∷ counted text) adds.0 in (
      adds.0,
      whole ∙ ap (λ t. old ++ (4 ∷ fact ∷ goal ∷ (counted t ++ adds.0))) (text_is trees),
      subst (λ a. AreArguments trees a adds.0) (arguments_are trees) (adds.2 trees (known trees h)),
    )

pub rule_key : (fact goal : ℕ) (rule : Rule) (s : Step) (old new : List ℕ) → old ≡ [] → s ≡ step.Apply fact goal rule → AddsRule old new fact goal rule →
    (trees : List Tree) → HasKnownIds trees s → IsKey trees (step_at trees s) new
rule_key fact goal rule s old new empty is adds trees h =
    let known : RuleIsKnown trees rule = subst (HasKnownIds trees) is h in
    let a = adds trees known in
    subst (λ z. IsKey trees (step_at trees z) new) (sym is) (
      a.0,
      a.2,
      a.1 ∙ ap (λ l. l ++ (4 ∷ fact ∷ goal ∷ (counted (word_of (rule_at trees rule)) ++ a.0)))
          empty,
    )
