use Rattle.dlk_readback.proofs.Paired.{pairs_text}
use Rattle.dlk_readback.proofs.laws.shown_pairs_are_read.Goals as goal

pub returns : goal.returns
returns c = pairs_text
