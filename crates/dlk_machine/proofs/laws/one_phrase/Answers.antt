use Rattle.dlk_machine.proofs.ParseLaws.{one_read}
use Rattle.dlk_machine.proofs.laws.one_phrase.Goals as goal

pub returns : goal.returns
returns c = one_read
