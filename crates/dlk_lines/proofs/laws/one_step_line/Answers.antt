use Rattle.dlk_lines.proofs.LineForms.{one_step_line}
use Rattle.dlk_lines.proofs.laws.one_step_line.Goals as goal

pub returns : goal.returns
returns c = one_step_line
