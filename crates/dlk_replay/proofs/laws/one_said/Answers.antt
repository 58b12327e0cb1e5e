use Rattle.dlk_replay.proofs.OneSaid.{one_said_in_file}
use Rattle.dlk_replay.proofs.laws.one_said.Goals as goal

pub returns : goal.returns
returns c = one_said_in_file
