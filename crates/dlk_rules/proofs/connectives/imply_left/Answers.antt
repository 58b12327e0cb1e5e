use Rattle.dlk_calculus.specs.Rules.{ImplyL}
use Rattle.dlk_rules.proofs.OverIds.{two_stand, stands_old, made, left_put, left_without, right_last}
use Rattle.dlk_rules.proofs.connectives.imply_left.Goals as goal

pub returns-clause-made : goal.returns-clause-made
returns-clause-made g c =
    let trees = g.S.Store.trees c.args.store.now in
    let m = c.in_ok-f.ensures.ok in
    let s = stands_old trees c.args.s.now c.requires in
    made (ImplyL c.args.i) trees trees c.args.s.now c.in_ok-two.field-0 m.place_is (m.f, m.g) m.at tt tt
    (two_stand (right_last (left_without s c.args.i) m.f_stands) (left_put s m.g_stands c.args.i)
    (rw (c.in_ok-push.ensures.ok, c.remove.ensures, c.set.ensures, c.in_ok-first.ensures, c.in_ok-second.ensures) at c.in_ok-two.ensures))
