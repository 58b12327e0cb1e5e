use Rattle.dlk_calculus.specs.Rules.{ImplyR}
use Rattle.dlk_rules.proofs.OverIds.{one_stands, stands_old, made, right_put, left_last}
use Rattle.dlk_rules.proofs.connectives.imply_right.Goals as goal

pub returns-clause-made : goal.returns-clause-made
returns-clause-made g c =
    let trees = g.S.Store.trees c.args.store.now in
    let m = c.in_ok-f.ensures.ok in
    let s = stands_old trees c.args.s.now c.requires in
    made (ImplyR c.args.j) trees trees c.args.s.now c.in_ok-one.field-0 m.place_is (m.f, m.g) m.at tt tt
    (one_stands (left_last (right_put s m.g_stands c.args.j) m.f_stands)
    (rw (c.in_ok-push.ensures.ok, c.set.ensures, c.in_ok-premise.ensures) at c.in_ok-one.ensures))
