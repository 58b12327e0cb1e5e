use Rattle.std.proofs.lemmas.Result.{err_from_is_err_and}
use Rattle.dlk_lines.proofs.Refusals.{fault_of_whole}
use Rattle.dlk_nodes.proofs.CallLaws.{ufun_needed, upred_needed}
use Rattle.dlk_nodes.proofs.calls.call.Goals as goal

pub returns-in_err-unit_symbol-in-ufun-clause-fault : goal.returns-in_err-unit_symbol-in-ufun-clause-fault
returns-in_err-unit_symbol-in-ufun-clause-fault c =
    let e = err_from_is_err_and c.from_residual-in_err-unit_symbol-in-ufun.result c.from_residual-in_err-unit_symbol-in-ufun.ensures.1 in
    rw (e.1, e.2) (fault_of_whole (ufun_needed c.args.word.now c.args.detail.now c.args.kids c.in-ufun.is) _ c.in_err-unit_symbol-in-ufun.ensures.fault)

pub returns-in_err-unit_symbol-in-upred-clause-fault : goal.returns-in_err-unit_symbol-in-upred-clause-fault
returns-in_err-unit_symbol-in-upred-clause-fault c =
    let e = err_from_is_err_and c.from_residual-in_err-unit_symbol-in-upred.result c.from_residual-in_err-unit_symbol-in-upred.ensures.1 in
    rw (e.1, e.2) (fault_of_whole (upred_needed c.args.word.now c.args.detail.now c.args.kids c.in-upred.is) _ c.in_err-unit_symbol-in-upred.ensures.fault)
