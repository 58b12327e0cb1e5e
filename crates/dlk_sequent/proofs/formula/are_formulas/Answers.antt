use Rattle.std.proofs.Common.{refl}
use Rattle.std.proofs.lemmas.Bool.{both_ways}
use Rattle.dlk_sequent.proofs.Formulas.{one_more, all_of_them, not_all}
use Rattle.dlk_sequent.proofs.formula.are_formulas.Goals as goal

pub returns-then-not-is_formula : goal.returns-then-not-is_formula
returns-then-not-is_formula g c = (
  λ e. cc,
  λ all. absurd (not_all _ c.args.ids.now c.loop-id.id-index _ c.loop-id-test.true
      (λ is. both_ways c.is_formula.result c.if-not-is_formula.true (c.is_formula.ensures.1 is)) all),
)

pub loop-id-preserved : goal.loop-id-preserved
loop-id-preserved g c = one_more _ c.args.ids.now c.loop-id.id-index _ c.loop-id-test.true c.loop-id.invariant
    (c.is_formula.ensures.0 c.if-not-is_formula.false)

pub returns : goal.returns
returns g c = (λ e. all_of_them _ c.args.ids.now c.loop-id.id-index c.loop-id-test.false c.loop-id.invariant, λ all. refl)
