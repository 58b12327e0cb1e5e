use Rattle.dlk_readback.proofs.Turned.{sequent_text}
use Rattle.dlk_readback.proofs.laws.shown_sequent_is_read.Goals as goal

pub returns : goal.returns
returns c = sequent_text
