use Rattle.dlk_link.proofs.OneTrimmed.{one_trimmed}
use Rattle.dlk_link.proofs.laws.one_trimmed.Goals as goal

pub returns : goal.returns
returns c = one_trimmed
