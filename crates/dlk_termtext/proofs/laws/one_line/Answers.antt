use Rattle.dlk_termtext.proofs.LineLaws.{one_line}
use Rattle.dlk_termtext.proofs.laws.one_line.Goals as goal

pub returns : goal.returns
returns c = one_line
