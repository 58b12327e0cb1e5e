use Rattle.dlk_calculus.specs.Rules.{AndL}
use Rattle.dlk_rules.proofs.OverIds.{one_stands, stands_old, made, left_put, left_last}
use Rattle.dlk_rules.proofs.connectives.and_left.Goals as goal

pub returns-clause-made : goal.returns-clause-made
returns-clause-made g c =
    let trees = g.S.Store.trees c.args.store.now in
    let m = c.in_ok-f.ensures.ok in
    let s = stands_old trees c.args.s.now c.requires in
    made (AndL c.args.i) trees trees c.args.s.now c.in_ok-one.field-0 m.place_is (m.f, m.g) m.at tt tt
    (one_stands (left_last (left_put s m.f_stands c.args.i) m.g_stands)
    (rw (c.in_ok-push.ensures.ok, c.set.ensures, c.in_ok-premise.ensures) at c.in_ok-one.ensures))
