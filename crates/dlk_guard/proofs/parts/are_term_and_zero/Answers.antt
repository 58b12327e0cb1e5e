use Rattle.std.proofs.Common.{◌∙◌, ◌&&◌, sym, ap}
use Rattle.dlk_store.specs.Stores.{tree}
use Rattle.dlk_guard.specs.Smooth.{is_zero}
use Rattle.dlk_guard.proofs.Equal.{is_test}
use Rattle.dlk_guard.proofs.parts.are_term_and_zero.Goals as goal

pub returns-then-same-clause-value : goal.returns-then-same-clause-value
returns-then-same-clause-value g c =
    let trees = g.S.Store.trees c.args.store.now in
    let test = is_test c.same.result (tree trees c.args.d) (tree trees c.args.side) c.same.ensures in
    c.is_zero.ensures.value ∙ sym (ap (λ b. b && is_zero (tree trees c.args.other)) (sym test ∙ c.if-same.true))

pub returns-else-same-clause-value : goal.returns-else-same-clause-value
returns-else-same-clause-value g c =
    let trees = g.S.Store.trees c.args.store.now in
    let test = is_test c.same.result (tree trees c.args.d) (tree trees c.args.side) c.same.ensures in
    c.if-same.false ∙ sym (ap (λ b. b && is_zero (tree trees c.args.other)) (sym test ∙ c.if-same.false))
