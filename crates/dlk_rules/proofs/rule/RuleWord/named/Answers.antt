use Rattle.std.proofs.Common.{rules, arith, sym}
use Rattle.std.specs.Prelude.{codes}
use Rattle.std.proofs.lemmas.Slice.Eq.{text_from_reads}
use Rattle.dlk_rules.proofs.rule.RuleWord.named.Goals as goal

pub returns-in-commuteEquivL-clause-found : goal.returns-in-commuteEquivL-clause-found
returns-in-commuteEquivL-clause-found c = sym (text_from_reads c.args.text.now (codes "commuteEquivL") (omega arith) (search rules))

pub returns-in-commuteEquivR-clause-found : goal.returns-in-commuteEquivR-clause-found
returns-in-commuteEquivR-clause-found c = sym (text_from_reads c.args.text.now (codes "commuteEquivR") (omega arith) (search rules))
