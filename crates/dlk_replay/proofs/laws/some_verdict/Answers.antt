use Rattle.dlk_replay.proofs.Verdicts.{some_verdict}
use Rattle.dlk_replay.proofs.laws.some_verdict.Goals as goal

pub returns : goal.returns
returns c = some_verdict
