use Rattle.dlk_calculus.specs.Rules.{EquivR}
use Rattle.dlk_rules.proofs.OverIds.{two_stand, stands_kept, stands_imply, made, right_put}
use Rattle.dlk_rules.proofs.connectives.equiv_right.Goals as goal

pub returns-clause-made : goal.returns-clause-made
returns-clause-made g c =
    let old = g.S.Store.trees c.args.store.now in
    let new = g.S.Store.trees c.both_ways.new.store in
    let m = c.in_ok-f.ensures.ok in
    let two = c.in_ok-there.ensures in
    let s = stands_kept (g.met.S.Store.grows_keeps c.args.store.now c.both_ways.new.store c.both_ways.ensures.grows) c.args.s.now c.requires in
    let there = stands_imply two.there m.f_stands.tree_is m.g_stands.tree_is in
    let back = stands_imply two.back m.g_stands.tree_is m.f_stands.tree_is in
    made (EquivR c.args.j) old new c.args.s.now c.in_ok-two.field-0 m.place_is (m.f, m.g) m.at tt tt
    (two_stand (right_put s there c.args.j) (right_put s back c.args.j)
    (rw (c.set.ensures, c.set-2.ensures, c.in_ok-first.ensures, c.in_ok-second.ensures) at c.in_ok-two.ensures))
