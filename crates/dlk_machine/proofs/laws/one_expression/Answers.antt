use Rattle.dlk_machine.proofs.ParseLaws.{one_expression_read}
use Rattle.dlk_machine.proofs.laws.one_expression.Goals as goal

pub returns : goal.returns
returns c = one_expression_read
