use Rattle.dlk_grammar.proofs.Splitting.{bad_is_no_split}
use Rattle.dlk_grammar.proofs.laws.bad_is_no_split.Goals as goal

pub returns : goal.returns
returns c = λ at bytes ts bad p q. bad_is_no_split p q
