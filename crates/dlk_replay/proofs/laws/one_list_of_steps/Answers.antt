use Rattle.dlk_replay.proofs.SaidSteps.{one_list_of_steps}
use Rattle.dlk_replay.proofs.laws.one_list_of_steps.Goals as goal

pub returns : goal.returns
returns c = one_list_of_steps
