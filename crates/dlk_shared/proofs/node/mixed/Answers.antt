use Rattle.std.proofs.Common.{get_or, sym, ap, ◌∙◌}
use Rattle.std.proofs.lemmas.List.Sums.{fold_more}
use Rattle.dlk_store.specs.declared.Id.{Id}
use Rattle.dlk_shared.specs.Mixed.{mix}
use Rattle.dlk_shared.proofs.node.mixed.Goals as goal

pub loop-id-preserved : goal.loop-id-preserved
loop-id-preserved c =
    let kids = c.args.kids.now in
    let k = c.loop-id.id-index in
    let d : Id = record { 0 = 0 } in
    ap (λ n. mix n (get_or kids k d)) c.loop-id.invariant ∙ sym (fold_more mix c.args.op kids k d c.loop-id-test.true)
