use Rattle.std.proofs.Common.{Option, Some, None}
use Rattle.std.specs.Prelude.{IfNone}
use Rattle.dlk_calculus.specs.Rules.{Rule, word_of}
use Rattle.dlk_rules.specs.declared.rule.RuleWord.{RuleWord}
use Rattle.dlk_rules.specs.Words.{text_of}
use Rattle.dlk_rules.proofs.WordLaws.{no_rule_named}
use Rattle.dlk_rules.proofs.rule.RuleWord.of_bytes.Goals as goal
use Rattle.std.proofs.Common.{◌≢◌, List, ℕ}

none_of : (text : List ℕ) (o : Option RuleWord) → IfNone o ((w : RuleWord) → text_of w ≢ text) → IfNone o ((rule : Rule) → word_of rule ≢ text)
none_of text None none = no_rule_named text none
none_of text (Some w) none = tt

pub returns-clause-none : goal.returns-clause-none
returns-clause-none c = none_of c.args.text.now c.named.result c.named.ensures.none
