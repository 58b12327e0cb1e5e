use Rattle.std.proofs.Common.{sym, arith}
use Rattle.dlk_guard.proofs.LastKids.{few_kids, second_last}
use Rattle.dlk_guard.proofs.conditions.before_last.Goals as goal

pub returns-then-ids-lt2-clause-value : goal.returns-then-ids-lt2-clause-value
returns-then-ids-lt2-clause-value c = λ trees. sym (few_kids trees c.args.ids.now (omega arith))

pub returns-clause-value : goal.returns-clause-value
returns-clause-value c = λ trees. sym (second_last trees c.args.ids.now _ (omega arith))
