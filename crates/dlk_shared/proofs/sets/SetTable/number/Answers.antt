use Rattle.std.proofs.Common.{◌≡◌, true, sym, subst}
use Rattle.dlk_tree.specs.Listed.{is_among}
use Rattle.dlk_tree.specs.Statics.{plain}
use Rattle.dlk_shared.specs.SetTables.{SetTable}
use Rattle.dlk_shared.proofs.PlainToo.{tried_plain_too}
use Rattle.dlk_shared.proofs.sets.SetTable.number.Goals as goal

pub invariant_of-self : goal.invariant_of-self
invariant_of-self c =
    let v = c.args.v.now in
    let too = subst (λ (t : SetTable). v.primed ≡ true → is_among t.vars (plain v.name) ≡ true) (sym c.self.view_is) c.in_ok-number_plain.ensures.plain in
    tried_plain_too c.self.inside.vars v c.self.invariant too c.number.result c.number.new.self c.number.ensures.numbered c.number.ensures.unchanged
