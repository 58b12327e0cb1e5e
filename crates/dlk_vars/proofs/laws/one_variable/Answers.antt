use Rattle.std.proofs.Common.{sym, ◌∙◌}
use Rattle.std.proofs.lemmas.Option.{same_Some}
use Rattle.dlk_vars.proofs.Numbering.{stands_at}
use Rattle.dlk_vars.proofs.laws.one_variable.Goals as goal

pub returns : goal.returns
returns c =
    let table = c.args.table.now in
    let v = c.args.v.now in
    let w = c.args.w.now in
    same_Some v w (sym (stands_at table v c.args.n.0 c.requires.first) ∙ stands_at table w c.args.n.0 c.requires.second)
