use Rattle.dlk_scripts.proofs.Answered.{one_parts_said}
use Rattle.dlk_scripts.proofs.laws.one_parts.Goals as goal

pub returns : goal.returns
returns c = one_parts_said
