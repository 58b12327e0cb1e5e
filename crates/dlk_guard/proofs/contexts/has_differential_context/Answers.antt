use Rattle.std.proofs.Common.{◌≡◌, ◌∙◌, ◌||◌, ◌+◌, false, sym, ap, drop}
use Rattle.std.specs.List.{list_any}
use Rattle.dlk_store.specs.Stores.{tree}
use Rattle.dlk_sequent.specs.Substitutions.{pairs_at}
use Rattle.dlk_guard.specs.Guarded.{has_hole_in_differential, is_differential_context}
use Rattle.dlk_guard.proofs.Looked.{pairs_left, next_pair}
use Rattle.dlk_guard.proofs.contexts.has_differential_context.Goals as goal

pub loop-pair-preserved : goal.loop-pair-preserved
loop-pair-preserved g c =
    let trees = g.S.Store.trees c.args.store.now in
    let pairs = c.args.pairs.now in
    let i = c.loop-pair.pair-index in
    let p = c.pair-item.result in
    let there = c.loop-pair-test.true in
    let inv = c.loop-pair.invariant in
    let none : has_hole_in_differential (tree trees p.by) ≡ false =
    sym c.has_hole_in_differential.ensures.value ∙ c.if-has_hole_in_differential.false in
    record {
      rest = inv.rest ∙ ap (list_any is_differential_context) (pairs_left trees pairs i p c.pair-item.is there)
          ∙ ap (λ b. b || list_any is_differential_context (pairs_at trees (drop (i + 1) pairs))) none;
      cost = next_pair trees pairs i p _ _ _ c.pair-item.is there c.has_hole_in_differential.ensures.cost inv.cost;
    }
