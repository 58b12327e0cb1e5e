use Rattle.std.proofs.lemmas.Result.{err_from_is_err_and}
use Rattle.dlk_lines.proofs.Refusals.{fault_of_whole}
use Rattle.dlk_nodes.proofs.DetailLaws.{no_item, evolved_parts, evolved_name_needed, some_left}
use Rattle.dlk_nodes.proofs.items.item.Goals as goal

pub returns-in_err-name-clause-fault : goal.returns-in_err-name-clause-fault
returns-in_err-name-clause-fault c =
    let e = err_from_is_err_and c.from_residual.result c.from_residual.ensures.1 in
    rw (e.1, e.2) (fault_of_whole (no_item c.args.text.now c.in_default.ensures.none) _ c.in_err-name.ensures.fault)

pub returns-then-not-is_empty-clause-fault : goal.returns-then-not-is_empty-clause-fault
returns-then-not-is_empty-clause-fault c = λ i s. some_left _ c.if-not-is_empty.ensures (evolved_parts c.args.text.now _ _ i c.in-Some.ensures.found s).nothing

pub returns-in_err-name-2-clause-fault : goal.returns-in_err-name-2-clause-fault
returns-in_err-name-2-clause-fault c =
    let e = err_from_is_err_and c.from_residual-in_err-name-2.result c.from_residual-in_err-name-2.ensures.1 in
    rw (e.1, e.2) (fault_of_whole (evolved_name_needed c.args.text.now _ _ c.in-Some.ensures.found) _ c.in_err-name-2.ensures.fault)
