use Rattle.std.proofs.Common.{append-nil, sym}
use Rattle.dlk_nodes.proofs.Fronts.{uncut_lacks}
use Rattle.dlk_nodes.proofs.pairs.up_to_comma.Goals as goal

pub returns-in-None : goal.returns-in-None
returns-in-None c = record { text_is = sym (append-nil c.args.text.now); first = uncut_lacks 44 c.args.text.now c.in-None.ensures.none }
