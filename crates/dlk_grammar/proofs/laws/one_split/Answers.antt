use Rattle.dlk_grammar.proofs.Splitting.{one_split}
use Rattle.dlk_grammar.proofs.laws.one_split.Goals as goal

pub returns : goal.returns
returns c = λ at bytes ts us p q. one_split p q
