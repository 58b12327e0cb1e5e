use Rattle.dlk_grammar.proofs.SomeSplit.{some_split}
use Rattle.dlk_grammar.proofs.laws.some_split.Goals as goal

pub returns : goal.returns
returns c = some_split
