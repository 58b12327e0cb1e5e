use Rattle.dlk_calculus.specs.Rules.{HideL}
use Rattle.dlk_rules.proofs.OverIds.{one_stands, stands_old, made, left_without}
use Rattle.dlk_rules.proofs.structural.hide_left.Goals as goal

pub returns-clause-made : goal.returns-clause-made
returns-clause-made g c =
    let trees = g.S.Store.trees c.args.store.now in
    let at = c.in_ok-formula_at.ensures.ok in
    made (HideL c.args.i) trees trees c.args.s.now c.in_ok-one.field-0 at.place_is at.f at.at tt tt
    (one_stands (left_without (stands_old trees c.args.s.now c.requires) c.args.i)
    (rw (c.remove.ensures, c.in_ok-premise.ensures) at c.in_ok-one.ensures))
