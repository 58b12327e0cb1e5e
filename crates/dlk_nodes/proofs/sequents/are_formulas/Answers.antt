use Rattle.std.proofs.lemmas.Bool.{both_ways}
use Rattle.dlk_nodes.proofs.FormulasRead.{one_more, all_of_them, not_all}
use Rattle.dlk_nodes.proofs.sequents.are_formulas.Goals as goal

pub returns-then-not-is_formula-clause-no : goal.returns-then-not-is_formula-clause-no
returns-then-not-is_formula-clause-no g c = λ all.
    absurd (not_all _ c.args.ids.now c.loop-id.id-index _ c.loop-id-test.true
    (λ is. both_ways c.is_formula.result c.if-not-is_formula.true (c.is_formula.ensures.no is)) all)

pub loop-id-preserved : goal.loop-id-preserved
loop-id-preserved g c =
    one_more _ c.args.ids.now c.loop-id.id-index _ c.loop-id-test.true c.loop-id.invariant (c.is_formula.ensures.yes c.if-not-is_formula.false)

pub returns-clause-yes : goal.returns-clause-yes
returns-clause-yes g c = λ e. all_of_them _ c.args.ids.now c.loop-id.id-index c.loop-id-test.false c.loop-id.invariant
