use Rattle.dlk_calculus.specs.Rules.{EquivL}
use Rattle.dlk_rules.proofs.OverIds.{one_stands, stands_kept, stands_imply, made, left_put, left_last}
use Rattle.dlk_rules.proofs.connectives.equiv_left.Goals as goal

pub returns-clause-made : goal.returns-clause-made
returns-clause-made g c =
    let old = g.S.Store.trees c.args.store.now in
    let new = g.S.Store.trees c.both_ways.new.store in
    let m = c.in_ok-f.ensures.ok in
    let two = c.in_ok-there.ensures in
    let s = stands_kept (g.met.S.Store.grows_keeps c.args.store.now c.both_ways.new.store c.both_ways.ensures.grows) c.args.s.now c.requires in
    let there = stands_imply two.there m.f_stands.tree_is m.g_stands.tree_is in
    let back = stands_imply two.back m.g_stands.tree_is m.f_stands.tree_is in
    made (EquivL c.args.i) old new c.args.s.now c.in_ok-one.field-0 m.place_is (m.f, m.g) m.at tt tt
    (one_stands (left_last (left_put s there c.args.i) back)
    (rw (c.in_ok-push.ensures.ok, c.set.ensures, c.in_ok-premise.ensures) at c.in_ok-one.ensures))
