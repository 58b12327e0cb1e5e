use Rattle.std.proofs.Common.{[]}
use Rattle.std.proofs.lemmas.Result.{err_from_is_err_and}
use Rattle.dlk_lines.proofs.Refusals.{fault_of_whole}
use Rattle.dlk_nodes.proofs.DetailLaws.{unit_parts, unit_name_needed, unit_taboo_needed, taboo_cut, some_left}
use Rattle.dlk_nodes.proofs.details.unit.Goals as goal

pub returns-in_default-cut_at-clause-fault : goal.returns-in_default-cut_at-clause-fault
returns-in_default-cut_at-clause-fault c = λ u s.
    let w = unit_parts c.args.text.now _ _ u c.in-Some.ensures.found s in
    c.in_default-cut_at.ensures.none w.taboo [] w.behind_is

pub returns-then-not-is_empty-clause-fault : goal.returns-then-not-is_empty-clause-fault
returns-then-not-is_empty-clause-fault c = λ u s.
    let w = unit_parts c.args.text.now _ _ u c.in-Some.ensures.found s in
    some_left _ c.if-not-is_empty.ensures (taboo_cut _ _ _ w.taboo [] c.in-Some-cut_at.ensures.found w.behind_is w.real).1

pub returns-in_err-x-clause-fault : goal.returns-in_err-x-clause-fault
returns-in_err-x-clause-fault c =
    let e = err_from_is_err_and c.from_residual-in_err-x.result c.from_residual-in_err-x.ensures.1 in
    rw (e.1, e.2) (fault_of_whole (unit_name_needed c.args.text.now _ _ c.in-Some.ensures.found) _ c.in_err-x.ensures.fault)

pub returns-in_err-y-clause-fault : goal.returns-in_err-y-clause-fault
returns-in_err-y-clause-fault c =
    let e = err_from_is_err_and c.from_residual-in_err-y.result c.from_residual-in_err-y.ensures.1 in
    rw (e.1, e.2) (fault_of_whole (unit_taboo_needed c.args.text.now _ _ _ _ c.in-Some.ensures.found c.in-Some-cut_at.ensures.found) _ c.in_err-y.ensures.fault)
