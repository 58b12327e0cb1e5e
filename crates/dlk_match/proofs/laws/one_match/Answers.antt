use Rattle.dlk_match.proofs.OneMatch.{one_match}
use Rattle.dlk_match.proofs.laws.one_match.Goals as goal

pub returns : goal.returns
returns c = one_match
