use Rattle.dlk_vars.proofs.Words.{row_same}
use Rattle.dlk_vars.proofs.laws.same_rows.Goals as goal

pub returns : goal.returns
returns c = row_same c.args.a.now c.args.b.now c.requires
