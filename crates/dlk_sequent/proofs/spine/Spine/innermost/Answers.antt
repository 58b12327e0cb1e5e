use Rattle.std.proofs.Common.{◌≡◌, ◌-◌, get_or, subst, arith}
use Rattle.std.proofs.lemmas.Bool.{both_ways}
use Rattle.dlk_sequent.specs.Spines.{Way}
use Rattle.dlk_sequent.proofs.Turns.{none_known, none_before, innermost_found}
use Rattle.dlk_sequent.proofs.spine.Spine.innermost.Goals as goal

pub has_formula_sort-requires : goal.has_formula_sort-requires
has_formula_sort-requires g c =
    none_known (g.S.Store.trees c.args.store.now) c.args.self.now c.loop-formula.outer c.loop-formula.formula c.requires c.loop-formula.invariant

pub loop-formula-preserved : goal.loop-formula-preserved
loop-formula-preserved g c =
    let turn = c.index.result.now in
    let at = subst (λ (way : Way). turn ≡ get_or way.turns (c.loop-formula.outer - 1) turn) c.self.view_is c.index.ensures in
    none_before (g.S.Store.trees c.args.store.now) c.args.self.now c.loop-formula.outer (c.loop-formula.outer - 1) c.loop-formula.formula turn
    c.requires c.loop-formula.invariant (λ e. both_ways c.has_formula_sort.result c.loop-formula-test.true (c.has_formula_sort.ensures.1 e))
    (omega (arith, c.if-outer-eq0.false)) at

pub returns : goal.returns
returns g c =
    innermost_found (g.S.Store.trees c.args.store.now) c.args.self.now c.loop-formula.outer c.loop-formula.formula c.requires c.loop-formula.invariant
    (c.has_formula_sort.ensures.0 c.loop-formula-test.false)
