use Rattle.dlk_scripts.proofs.Rising.{parts_rise}
use Rattle.dlk_scripts.proofs.laws.parts_rise.Goals as goal

pub returns : goal.returns
returns c = parts_rise
