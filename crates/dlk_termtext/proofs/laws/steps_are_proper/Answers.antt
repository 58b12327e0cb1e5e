use Rattle.dlk_termtext.proofs.LineLaws.{line_proper}
use Rattle.dlk_termtext.proofs.laws.steps_are_proper.Goals as goal

pub returns : goal.returns
returns c = line_proper
