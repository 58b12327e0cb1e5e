use Rattle.std.proofs.Common.{◌≡◌, length, rules}
use Rattle.std.proofs.lemmas.Result.{err_from_is_err_and}
use Rattle.dlk_lines.proofs.Refusals.{fault_of_whole}
use Rattle.dlk_nodes.proofs.DetailLaws.{empty}
use Rattle.dlk_nodes.proofs.OpsCut.{begins, no_detail_there, kids_needed, call_needed, call_read}
use Rattle.dlk_nodes.proofs.calls.with_detail.Goals as goal

pub returns-in_default-clause-fault : goal.returns-in_default-clause-fault
returns-in_default-clause-fault c = no_detail_there c.args.table.now c.args.word.now c.requires.word c.requires.detail c.args.behind.now
    (empty _ c.in_default.ensures.cases)

pub returns-in_err-kids-clause-fault : goal.returns-in_err-kids-clause-fault
returns-in_err-kids-clause-fault c =
    let e = err_from_is_err_and c.from_residual.result c.from_residual.ensures.1 in
    let whole = begins c.args.behind.now _ _ c.in-Some.ensures.cases.0 c.requires.behind in
    rw (e.1, e.2) (fault_of_whole (kids_needed c.args.table.now c.args.word.now c.requires.word c.requires.detail c.args.behind.now _ _ _ whole
    c.front_of.ensures) _ c.in_err-kids.ensures.fault)

pub returns-in_err-op-clause-fault : goal.returns-in_err-op-clause-fault
returns-in_err-op-clause-fault c =
    let e = err_from_is_err_and c.from_residual-in_err-op.result c.from_residual-in_err-op.ensures.1 in
    let whole = begins c.args.behind.now _ _ c.in-Some.ensures.cases.0 c.requires.behind in
    let long : c.len.result ≡ length c.in_ok-kids.kids.items = search rules in
    rw (e.1, e.2)
    (fault_of_whole (call_needed c.args.table.now c.args.word.now c.requires.word c.requires.detail c.args.behind.now _ _ _ c.in_ok-kids.kids.items _
    long whole c.front_of.ensures c.in_ok-kids.ensures.found) _
    c.in_err-op.ensures.fault)

pub returns-clause-found : goal.returns-clause-found
returns-clause-found c =
    let whole = begins c.args.behind.now _ _ c.in-Some.ensures.cases.0 c.requires.behind in
    let long : c.len.result ≡ length c.in_ok-kids.kids.items = search rules in
    call_read c.args.table.now c.args.word.now c.requires.word c.requires.detail c.args.behind.now _ _ _ _ c.in_ok-kids.kids.items _ long whole
    c.front_of.ensures c.in_ok-kids.ensures.found
    c.in_ok-op.ensures.found
