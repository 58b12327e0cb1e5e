use Rattle.dlk_rules.proofs.WordLaws.{one_rule}
use Rattle.dlk_rules.proofs.laws.rule_is_its_word_and_arguments.Goals as goal

pub returns : goal.returns
returns c = one_rule
