use Rattle.dlk_calculus.specs.Rules.{AndR}
use Rattle.dlk_rules.proofs.OverIds.{two_stand, stands_old, made, right_put}
use Rattle.dlk_rules.proofs.connectives.and_right.Goals as goal

pub returns-clause-made : goal.returns-clause-made
returns-clause-made g c =
    let trees = g.S.Store.trees c.args.store.now in
    let m = c.in_ok-f.ensures.ok in
    let s = stands_old trees c.args.s.now c.requires in
    made (AndR c.args.j) trees trees c.args.s.now c.in_ok-two.field-0 m.place_is (m.f, m.g) m.at tt tt
    (two_stand (right_put s m.f_stands c.args.j) (right_put s m.g_stands c.args.j)
    (rw (c.set.ensures, c.set-2.ensures, c.in_ok-first.ensures, c.in_ok-second.ensures) at c.in_ok-two.ensures))
