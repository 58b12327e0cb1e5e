-- A rule once more, by its word and its arguments.
use Rattle.std.proofs.Common.{◌≡◌, ℕ, List, [], sym, ap, subst, ◌∙◌}
use Rattle.dlk_tree.specs.Trees.{Tree}
use Rattle.dlk_calculus.specs.Rules.{Rule as TreeRule, word_of, arguments_of}
use Rattle.dlk_calculus.specs.Steps.{Apply}
use Rattle.dlk_rules.specs.declared.arguments.Arguments.{Arguments}
use Rattle.dlk_rules.specs.declared.rule.Rule.{Rule}
use Rattle.dlk_rules.specs.declared.rule.RuleWord.{RuleWord}
use Rattle.dlk_rules.specs.declared.step.Step.{Step}
use Rattle.dlk_rules.specs.declared.step.Step.TheVariants as step
use Rattle.dlk_rules.specs.Steps.{rule_at, RuleIsKnown}
use Rattle.dlk_rules.specs.Words.{shape_in, shape_of, arguments_at, ArgumentsAreKnown, text_of, wanted, IsCall}
use Rattle.dlk_link.specs.Copies.{IsSameArguments, IsSameRule, IsSameStep}

module _ {N : Type 0} (name : N → List ℕ) (rule : Rule) (word : RuleWord) (old : Arguments N) (new : Arguments (List ℕ))
    (word_is : (trees : List Tree) → text_of word ≡ word_of (rule_at trees rule))
    (arguments_are : (trees : List Tree) → arguments_at name trees old ≡ arguments_of (rule_at trees rule))
    (known : (trees : List Tree) → RuleIsKnown trees rule → ArgumentsAreKnown trees old)
    (same : IsSameArguments name old new) where
  pub fits : ((w : RuleWord) (r : TreeRule) → word_of r ≡ text_of w → shape_of (arguments_of r) ≡ wanted w) → shape_in new ≡ wanted word
  fits shapes = ap shape_of (same.same [] ∙ arguments_are []) ∙ shapes word (rule_at [] rule) (sym (word_is []))

  pub is_copy : ((r s : TreeRule) → word_of r ≡ word_of s → arguments_of r ≡ arguments_of s → r ≡ s) → (copy : Rule) →
      ((trees : List Tree) → IsCall trees word new copy) → IsSameRule rule copy
  is_copy one copy call = record {
    same = λ trees. one (rule_at trees copy) (rule_at trees rule) ((call trees).word_is ∙ word_is trees)
        ((call trees).arguments_are ∙ same.same trees ∙ arguments_are trees);
    known = λ trees h. (call trees).known (same.known trees (known trees h));
  }

-- a rule on a goal, with a copy of the rule
pub apply_copy : (fact goal : ℕ) (rule copy : Rule) (old : Step) → old ≡ step.Apply fact goal rule → IsSameRule rule copy →
    IsSameStep old (step.Apply fact goal copy)
apply_copy fact goal rule copy old is h =
    subst (λ s. IsSameStep s (step.Apply fact goal copy)) (sym is) (record {
      same = λ trees. ap (Apply fact goal) (h.same trees);
      known = λ trees k. h.known trees k;
    })
