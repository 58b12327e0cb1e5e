use Rattle.std.proofs.lemmas.Result.{err_from_is_err_and}
use Rattle.dlk_lines.proofs.Refusals.{fault_of_whole}
use Rattle.dlk_nodes.proofs.SymbolForms.{end_wanted, constant_wanted}
use Rattle.dlk_nodes.proofs.symbols.for_programs.Goals as goal

pub returns-in_default-before-2-clause-fault : goal.returns-in_default-before-2-clause-fault
returns-in_default-before-2-clause-fault c = end_wanted c.args.text.now _ c.in-Some.ensures.found c.in_default-before-2.ensures.none

pub returns-in_err-name-clause-fault : goal.returns-in_err-name-clause-fault
returns-in_err-name-clause-fault c =
    let e = err_from_is_err_and c.from_residual.result c.from_residual.ensures.1 in
    rw (e.1, e.2) (fault_of_whole (constant_wanted c.args.text.now _ c.in-Some.ensures.found _ c.in-Some-before-2.ensures.found) _ c.in_err-name.ensures.fault)
