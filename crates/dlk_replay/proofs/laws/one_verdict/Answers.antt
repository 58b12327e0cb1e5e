use Rattle.dlk_replay.proofs.Verdicts.{one_verdict}
use Rattle.dlk_replay.proofs.laws.one_verdict.Goals as goal

pub returns : goal.returns
returns c = one_verdict
