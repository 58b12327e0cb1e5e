use Rattle.dlk_calculus.specs.Rules.{EquivifyR}
use Rattle.dlk_rules.proofs.OverIds.{one_stands, stands_kept, stands_equiv, made, right_put}
use Rattle.dlk_rules.proofs.equivalences.equivify_right.Goals as goal

pub returns-clause-made : goal.returns-clause-made
returns-clause-made g c =
    let old = g.S.Store.trees c.args.store.now in
    let new = g.S.Store.trees c.equiv.new.store in
    let m = c.in_ok-f.ensures.ok in
    let s = stands_kept (g.met.S.Store.grows_keeps c.args.store.now c.equiv.new.store c.equiv.ensures.grows) c.args.s.now c.requires in
    let formula = stands_equiv c.in_ok-new.ensures.made m.f_stands.tree_is m.g_stands.tree_is in
    made (EquivifyR c.args.j) old new c.args.s.now c.in_ok-one.field-0 m.place_is (m.f, m.g) m.at tt tt
    (one_stands (right_put s formula c.args.j)
    (rw (c.set.ensures, c.in_ok-premise.ensures) at c.in_ok-one.ensures))
