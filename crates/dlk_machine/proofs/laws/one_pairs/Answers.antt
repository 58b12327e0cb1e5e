use Rattle.dlk_machine.proofs.ParseLaws.{one_pairs_read}
use Rattle.dlk_machine.proofs.laws.one_pairs.Goals as goal

pub returns : goal.returns
returns c = one_pairs_read
