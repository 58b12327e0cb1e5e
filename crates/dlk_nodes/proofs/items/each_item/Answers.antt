use Rattle.std.proofs.Common.{refl}
use Rattle.std.proofs.lemmas.Result.{err_from_is_err_and}
use Rattle.dlk_nodes.specs.Details.{SpellsItem}
use Rattle.dlk_lines.proofs.Refusals.{fault_of_whole}
use Rattle.dlk_nodes.proofs.Parted.{one_more, none_in_cut, none_in_last, all_parts}
use Rattle.dlk_nodes.proofs.items.each_item.Goals as goal

pub returns-in_err-item-clause-fault : goal.returns-in_err-item-clause-fault
returns-in_err-item-clause-fault c =
    let e = err_from_is_err_and c.from_residual.result c.from_residual.ensures.1 in
    rw (e.1, e.2) (fault_of_whole (none_in_cut SpellsItem 44 refl c.args.text.now c.loop-part.left.now _ _ c.loop-part.items.items
    c.in-Some.ensures.found c.loop-part.invariant) _ c.in_err-item.ensures.fault)

pub loop-part-preserved : goal.loop-part-preserved
loop-part-preserved c =
    rw c.in_ok-push.ensures.items
    (one_more SpellsItem 44 refl c.args.text.now c.loop-part.left.now _ _ _ c.loop-part.items.items c.in-Some.ensures.found c.in_ok-item.ensures.found
    c.loop-part.invariant)

pub returns-in_err-item-2-clause-fault : goal.returns-in_err-item-2-clause-fault
returns-in_err-item-2-clause-fault c =
    let e = err_from_is_err_and c.from_residual-in_err-item-2.result c.from_residual-in_err-item-2.ensures.1 in
    rw (e.1, e.2) (fault_of_whole (none_in_last SpellsItem 44 refl c.args.text.now c.loop-part.left.now c.loop-part.items.items
    c.in_default.ensures.none c.loop-part.invariant) _ c.in_err-item-2.ensures.fault)

pub returns-clause-found : goal.returns-clause-found
returns-clause-found c =
    rw c.in_ok-push-2.ensures.items
    (all_parts SpellsItem 44 refl c.args.text.now c.loop-part.left.now _ c.loop-part.items.items c.in_default.ensures.none
    c.in_ok-item-2.ensures.found c.loop-part.invariant)
