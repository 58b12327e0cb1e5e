use Rattle.std.proofs.lemmas.Result.{err_from_is_err_and}
use Rattle.dlk_lines.proofs.Refusals.{fault_of_whole}
use Rattle.dlk_nodes.proofs.OpsCut.{no_word, plain_read, plain_kids_needed}
use Rattle.dlk_nodes.proofs.calls.op_and_kids.Goals as goal

pub returns-in_err-kids-clause-fault : goal.returns-in_err-kids-clause-fault
returns-in_err-kids-clause-fault c =
    let e = err_from_is_err_and c.from_residual.result c.from_residual.ensures.1 in
    rw (e.1, e.2)
    (fault_of_whole (plain_kids_needed c.args.table.now c.args.text.now _ _ _ c.front_of.ensures c.in-Some.ensures.found) _ c.in_err-kids.ensures.fault)

pub returns-in-Some-clause-found : goal.returns-in-Some-clause-found
returns-in-Some-clause-found c =
    plain_read c.args.table.now c.args.text.now _ _ _ _ c.front_of.ensures c.in-Some.ensures.found c.in_ok-kids.ensures.found

pub returns-in_default-from_utf8-clause-fault : goal.returns-in_default-from_utf8-clause-fault
returns-in_default-from_utf8-clause-fault c = no_word c.args.table.now c.args.text.now _ _ c.front_of.ensures c.in_default-from_utf8.ensures.cases.0
