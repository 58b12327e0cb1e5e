use Rattle.dlk_rules.proofs.SideLaws.{places_on_side}
use Rattle.dlk_rules.proofs.laws.places_are_on_one_side.Goals as goal

pub returns : goal.returns
returns c = places_on_side
