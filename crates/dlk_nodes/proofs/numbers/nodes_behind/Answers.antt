use Rattle.std.proofs.lemmas.Result.{err_from_is_err_and}
use Rattle.dlk_lines.proofs.Refusals.{fault_of_whole}
use Rattle.dlk_nodes.proofs.OpsCut.{nothing_named, fields_found, fields_needed, space_needed}
use Rattle.dlk_nodes.proofs.numbers.nodes_behind.Goals as goal

pub returns-in_default-clause-found : goal.returns-in_default-clause-found
returns-in_default-clause-found c = nothing_named c.args.table.now c.args.text.now _ c.in_default.ensures.cases c.new.ensures.items

pub returns-then-not-is_space-clause-fault : goal.returns-then-not-is_space-clause-fault
returns-then-not-is_space-clause-fault c = space_needed c.args.table.now c.args.text.now _ _ c.in-Some.ensures.cases.0 c.if-not-is_space.ensures

pub returns-in_err-ids-clause-fault : goal.returns-in_err-ids-clause-fault
returns-in_err-ids-clause-fault c =
    let e = err_from_is_err_and c.from_residual.result c.from_residual.ensures.1 in
    rw (e.1, e.2) (fault_of_whole (fields_needed c.args.table.now c.args.text.now _ _ c.in-Some.ensures.cases.0) _ c.in_err-ids.ensures.fault)

pub returns-clause-found : goal.returns-clause-found
returns-clause-found c = fields_found c.args.table.now c.args.text.now _ _ _ c.in-Some.ensures.cases.0 c.if-not-is_space.ensures c.in_ok-ids.ensures.found
