use Rattle.std.proofs.Common.{sym}
use Rattle.std.proofs.lemmas.Result.{err_from_is_err_and}
use Rattle.dlk_lines.proofs.Refusals.{fault_of_whole}
use Rattle.dlk_nodes.proofs.DetailLaws.{each_needed, system_found, no_system}
use Rattle.dlk_nodes.proofs.items.items.Goals as goal

pub returns-in_err-items-clause-fault : goal.returns-in_err-items-clause-fault
returns-in_err-items-clause-fault c =
    let e = err_from_is_err_and c.from_residual.result c.from_residual.ensures.1 in
    rw (e.1, e.2) (fault_of_whole (each_needed c.args.text.now) _ c.in_err-items.ensures.fault)

pub returns-then-not-are_few_and_distinct-clause-fault : goal.returns-then-not-are_few_and_distinct-clause-fault
returns-then-not-are_few_and_distinct-clause-fault c =
    no_system c.args.text.now c.in_ok-items.items.items c.in_ok-items.ensures.found (sym (rw c.as_slice.ensures.value at c.if-not-are_few_and_distinct.ensures))

pub returns-clause-found : goal.returns-clause-found
returns-clause-found c =
    rw c.new.ensures (system_found c.args.text.now c.in_ok-items.items.items c.in_ok-items.ensures.found (sym
    (rw c.as_slice.ensures.value at c.if-not-are_few_and_distinct.ensures)))
