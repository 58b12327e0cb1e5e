use Rattle.dlk_lines.proofs.SomeLine.{some_step_line}
use Rattle.dlk_lines.proofs.laws.some_step_line.Goals as goal

pub returns : goal.returns
returns c = some_step_line
