use Rattle.dlk_match.proofs.AtOnce.{leaf_at_once}
use Rattle.dlk_match.proofs.instances.exchanged_at_once.Goals as goal

pub returns : goal.returns
returns c = λ own renames v given apart is. leaf_at_once own renames given apart v is
