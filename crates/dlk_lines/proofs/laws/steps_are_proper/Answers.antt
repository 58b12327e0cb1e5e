use Rattle.dlk_lines.proofs.Proper.{line_proper}
use Rattle.dlk_lines.proofs.laws.steps_are_proper.Goals as goal

pub returns : goal.returns
returns c = line_proper
