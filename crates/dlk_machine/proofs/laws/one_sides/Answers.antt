use Rattle.dlk_machine.proofs.ParseLaws.{one_sides_read}
use Rattle.dlk_machine.proofs.laws.one_sides.Goals as goal

pub returns : goal.returns
returns c = one_sides_read
