use Rattle.dlk_lines.proofs.LineForms.{done_is_none}
use Rattle.dlk_lines.proofs.laws.done_is_no_step.Goals as goal

pub returns : goal.returns
returns c = done_is_none
