use Rattle.dlk_calculus.specs.Rules.{HideR}
use Rattle.dlk_rules.proofs.OverIds.{one_stands, stands_old, made, right_without}
use Rattle.dlk_rules.proofs.structural.hide_right.Goals as goal

pub returns-clause-made : goal.returns-clause-made
returns-clause-made g c =
    let trees = g.S.Store.trees c.args.store.now in
    let at = c.in_ok-formula_at.ensures.ok in
    made (HideR c.args.j) trees trees c.args.s.now c.in_ok-one.field-0 at.place_is at.f at.at tt tt
    (one_stands (right_without (stands_old trees c.args.s.now c.requires) c.args.j)
    (rw (c.remove.ensures, c.in_ok-premise.ensures) at c.in_ok-one.ensures))
