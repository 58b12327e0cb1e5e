use Rattle.std.proofs.Common.{ap, ◌∙◌}
use Rattle.dlk_vars.specs.Tables.{number_of}
use Rattle.dlk_vars.proofs.Numbering.{keeps_number}
use Rattle.dlk_vars.proofs.laws.number_stays.Goals as goal

pub returns : goal.returns
returns c =
    let g = c.requires.grows in
    ap (λ t. number_of t c.args.v.now) g.is ∙ keeps_number c.args.old.now g.more c.args.v.now c.args.n.0 c.requires.number
