use Rattle.dlk_match.proofs.Plugged.{plugged_back}
use Rattle.dlk_match.proofs.instances.plugged_back.Goals as goal

pub returns : goal.returns
returns c = λ v e t made dots p. plugged_back v e t (made, dots) p
