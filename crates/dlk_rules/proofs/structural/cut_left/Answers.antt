use Rattle.std.proofs.Common.{refl}
use Rattle.dlk_calculus.specs.Rules.{CutL}
use Rattle.dlk_rules.proofs.OverIds.{two_stand, stands_kept, stands_itself_kept, stands_imply, sort_there, made, left_put, left_without, right_last}
use Rattle.dlk_rules.proofs.structural.cut_left.Goals as goal

pub imply-requires-clause-f_sort : goal.imply-requires-clause-f_sort
imply-requires-clause-f_sort g c = sort_there _ _ _ _ c.requires.sequent.ante c.in_ok-f.ensures.ok

pub returns-clause-made : goal.returns-clause-made
returns-clause-made g c =
    let old = g.S.Store.trees c.args.store.now in
    let new = g.S.Store.trees c.imply.new.store in
    let keeps = g.met.S.Store.grows_keeps c.args.store.now c.imply.new.store c.imply.ensures.grows in
    let at = c.in_ok-f.ensures.ok in
    let s = stands_kept keeps c.args.s.now c.requires.sequent.known in
    let h = stands_itself_kept keeps c.args.h c.requires.formula in
    let formula = stands_imply c.in_ok-implied.ensures.made at.stands.tree_is refl in
    made (CutL c.args.i _) old new c.args.s.now c.in_ok-two.field-0 at.place_is at.f (at.at, c.is_formula.ensures.0 c.if-not-is_formula.false) tt tt
    (two_stand (left_put s h c.args.i) (right_last (left_without s c.args.i) formula)
    (rw (c.in_ok-push.ensures.ok, c.remove.ensures, c.set.ensures, c.in_ok-first.ensures, c.in_ok-second.ensures) at c.in_ok-two.ensures))
