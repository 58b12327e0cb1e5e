use Rattle.std.proofs.Common.{refl}
use Rattle.dlk_calculus.specs.Rules.{CutR}
use Rattle.dlk_rules.proofs.OverIds.{two_stand, stands_kept, stands_itself_kept, stands_imply, sort_there, made, right_put}
use Rattle.dlk_rules.proofs.structural.cut_right.Goals as goal

pub imply-requires-clause-g_sort : goal.imply-requires-clause-g_sort
imply-requires-clause-g_sort g c = sort_there _ _ _ _ c.requires.sequent.succ c.in_ok-f.ensures.ok

pub returns-clause-made : goal.returns-clause-made
returns-clause-made g c =
    let old = g.S.Store.trees c.args.store.now in
    let new = g.S.Store.trees c.imply.new.store in
    let keeps = g.met.S.Store.grows_keeps c.args.store.now c.imply.new.store c.imply.ensures.grows in
    let at = c.in_ok-f.ensures.ok in
    let s = stands_kept keeps c.args.s.now c.requires.sequent.known in
    let h = stands_itself_kept keeps c.args.h c.requires.formula in
    let formula = stands_imply c.in_ok-implies.ensures.made refl at.stands.tree_is in
    made (CutR c.args.j _) old new c.args.s.now c.in_ok-two.field-0 at.place_is at.f (at.at, c.is_formula.ensures.0 c.if-not-is_formula.false) tt tt
    (two_stand (right_put s h c.args.j) (right_put s formula c.args.j)
    (rw (c.set.ensures, c.set-2.ensures, c.in_ok-first.ensures, c.in_ok-second.ensures) at c.in_ok-two.ensures))
