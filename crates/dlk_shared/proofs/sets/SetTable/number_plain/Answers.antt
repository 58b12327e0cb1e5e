use Rattle.std.proofs.Common.{◌≡◌, true, subst, rules}
use Rattle.dlk_tree.specs.Listed.{is_among}
use Rattle.dlk_tree.specs.Statics.{plain}
use Rattle.dlk_vars.proofs.Numbering.{among}
use Rattle.dlk_shared.proofs.sets.SetTable.number_plain.Goals as goal

pub returns-clause-plain : goal.returns-clause-plain
returns-clause-plain c h =
    let vars = c.number.new.self in
    let is : c.plain-plain.result ≡ plain c.args.v.now.name = search rules in
    subst (λ w. is_among vars w ≡ true) is (among vars c.plain-plain.result c.in_ok-number.field-0.0 c.in_ok-number.ensures.number)
