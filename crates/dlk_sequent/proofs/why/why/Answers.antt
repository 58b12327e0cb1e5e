use Rattle.std.proofs.Common.{refl, sym, ◌∙◌}
use Rattle.dlk_sequent.proofs.Chosen.{chosen_is}
use Rattle.dlk_sequent.proofs.why.why.Goals as goal

pub returns-then-twice-clause-why : goal.returns-then-twice-clause-why
returns-then-twice-clause-why g c pairs twice =
    chosen_is (g.S.Store.trees c.args.store.now) c.args.pair.now c.if-not-is_of_kind.ensures.value refl refl refl pairs (sym c.if-twice.true ∙ twice)

pub returns-then-has_dot_from-clause-why : goal.returns-then-has_dot_from-clause-why
returns-then-has_dot_from-clause-why g c pairs twice =
    chosen_is (g.S.Store.trees c.args.store.now) c.args.pair.now c.if-not-is_of_kind.ensures.value c.if-has_dot_from.ensures refl refl pairs
    (sym c.if-twice.false ∙ twice)

pub returns-then-has_stray_hole-clause-why : goal.returns-then-has_stray_hole-clause-why
returns-then-has_stray_hole-clause-why g c pairs twice =
    chosen_is (g.S.Store.trees c.args.store.now) c.args.pair.now c.if-not-is_of_kind.ensures.value c.if-has_dot_from.ensures c.if-has_stray_hole.ensures
    refl pairs (sym c.if-twice.false ∙ twice)

pub returns-then-branch-clause-why : goal.returns-then-branch-clause-why
returns-then-branch-clause-why g c pairs twice =
    let taboo = sym c.if-branch.true ∙ c.in_ok-has_taboo.ensures in
    chosen_is (g.S.Store.trees c.args.store.now) c.args.pair.now c.if-not-is_of_kind.ensures.value c.if-has_dot_from.ensures c.if-has_stray_hole.ensures
    taboo pairs (sym c.if-twice.false ∙ twice)

pub returns-clause-why : goal.returns-clause-why
returns-clause-why g c pairs twice =
    let taboo = sym c.if-branch.false ∙ c.in_ok-has_taboo.ensures in
    chosen_is (g.S.Store.trees c.args.store.now) c.args.pair.now c.if-not-is_of_kind.ensures.value c.if-has_dot_from.ensures c.if-has_stray_hole.ensures
    taboo pairs (sym c.if-twice.false ∙ twice)
