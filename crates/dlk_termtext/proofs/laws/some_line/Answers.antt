use Rattle.dlk_termtext.proofs.LineLaws.{some_line}
use Rattle.dlk_termtext.proofs.laws.some_line.Goals as goal

pub returns : goal.returns
returns c = some_line
