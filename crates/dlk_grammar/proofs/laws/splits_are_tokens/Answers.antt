use Rattle.dlk_grammar.proofs.Real.{split_tokens}
use Rattle.dlk_grammar.proofs.laws.splits_are_tokens.Goals as goal

pub returns : goal.returns
returns c = λ at bytes ts p. split_tokens p
