use Rattle.dlk_grammar.proofs.Splitting.{one_bad}
use Rattle.dlk_grammar.proofs.laws.one_bad.Goals as goal

pub returns : goal.returns
returns c = λ at bytes bad other p q. one_bad p q
