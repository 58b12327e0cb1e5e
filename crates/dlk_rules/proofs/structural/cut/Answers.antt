use Rattle.dlk_calculus.specs.Rules.{Cut}
use Rattle.dlk_rules.proofs.OverIds.{two_stand, stands_old, stands_itself, made, left_last, right_last}
use Rattle.dlk_rules.proofs.structural.cut.Goals as goal

pub returns-clause-made : goal.returns-clause-made
returns-clause-made g c =
    let trees = g.S.Store.trees c.args.store.now in
    let s = stands_old trees c.args.s.now c.requires.known in
    let h = stands_itself trees c.args.h c.requires.formula in
    made (Cut _) trees trees c.args.s.now c.in_ok-two.field-0 tt tt (c.is_formula.ensures.0 c.if-not-is_formula.false) tt tt
    (two_stand (left_last s h) (right_last s h)
    (rw (c.in_ok-push.ensures.ok, c.in_ok-push-2.ensures.ok, c.in_ok-first.ensures, c.in_ok-second.ensures) at c.in_ok-two.ensures))
