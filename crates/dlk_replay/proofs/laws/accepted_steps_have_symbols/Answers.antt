use Rattle.dlk_replay.proofs.ProperSteps.{file_steps_symbols}
use Rattle.dlk_replay.proofs.laws.accepted_steps_have_symbols.Goals as goal

pub returns : goal.returns
returns c = file_steps_symbols
