use Rattle.dlk_calculus.specs.Rules.{OrL}
use Rattle.dlk_rules.proofs.OverIds.{two_stand, stands_old, made, left_put}
use Rattle.dlk_rules.proofs.connectives.or_left.Goals as goal

pub returns-clause-made : goal.returns-clause-made
returns-clause-made g c =
    let trees = g.S.Store.trees c.args.store.now in
    let m = c.in_ok-f.ensures.ok in
    let s = stands_old trees c.args.s.now c.requires in
    made (OrL c.args.i) trees trees c.args.s.now c.in_ok-two.field-0 m.place_is (m.f, m.g) m.at tt tt
    (two_stand (left_put s m.f_stands c.args.i) (left_put s m.g_stands c.args.i)
    (rw (c.set.ensures, c.set-2.ensures, c.in_ok-first.ensures, c.in_ok-second.ensures) at c.in_ok-two.ensures))
