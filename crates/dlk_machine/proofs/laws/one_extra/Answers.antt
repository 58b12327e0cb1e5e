use Rattle.dlk_machine.proofs.ParseLaws.{one_extra_read}
use Rattle.dlk_machine.proofs.laws.one_extra.Goals as goal

pub returns : goal.returns
returns c = one_extra_read
