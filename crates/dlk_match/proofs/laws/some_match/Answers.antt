use Rattle.dlk_match.proofs.Deciding.{some_match}
use Rattle.dlk_match.proofs.laws.some_match.Goals as goal

pub returns : goal.returns
returns c = some_match
