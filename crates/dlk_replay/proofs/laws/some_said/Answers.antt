use Rattle.dlk_replay.proofs.SomeSaid.{some_said_in_file}
use Rattle.dlk_replay.proofs.laws.some_said.Goals as goal

pub returns : goal.returns
returns c = some_said_in_file
