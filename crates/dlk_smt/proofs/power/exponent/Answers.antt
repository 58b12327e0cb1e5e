use Rattle.dlk_smt.proofs.Kids.{no_exponent}
use Rattle.dlk_smt.proofs.power.exponent.Goals as goal

pub returns-in_default : goal.returns-in_default
returns-in_default g c = no_exponent (g.S.Store.trees c.args.store.now) c.args.kids.now c.in_default.len_below
