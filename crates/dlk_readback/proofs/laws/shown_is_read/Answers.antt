use Rattle.dlk_readback.proofs.Whole.{tree_text}
use Rattle.dlk_readback.proofs.laws.shown_is_read.Goals as goal

pub returns : goal.returns
returns c = tree_text
