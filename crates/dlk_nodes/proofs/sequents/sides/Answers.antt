use Rattle.std.proofs.Common.{sym, subst}
use Rattle.std.proofs.lemmas.Result.{err_from_is_err_and}
use Rattle.dlk_lines.proofs.Refusals.{fault_of_whole}
use Rattle.dlk_nodes.proofs.SidesRead.{SidesSoFar, no_sides_yet, sides_found, behind_needed, space_wanted, number_wanted, one_side_more}
use Rattle.dlk_nodes.proofs.sequents.sides.Goals as goal

pub loop-right-init : goal.loop-right-init
loop-right-init c =
    subst (SidesSoFar c.args.table.now c.args.text.now c.args.text.now) (sym c.new-ante.ensures.items) (no_sides_yet c.args.table.now c.args.text.now)

pub returns-in_err-succ-clause-fault : goal.returns-in_err-succ-clause-fault
returns-in_err-succ-clause-fault c =
    let e = err_from_is_err_and c.from_residual.result c.from_residual.ensures.1 in
    rw (e.1, e.2)
    (fault_of_whole (behind_needed c.args.table.now c.args.text.now c.loop-right.left.now c.loop-right.ante.items c.loop-right.invariant c.in-Some.right.now
    c.in-Some.ensures.found) _ c.in_err-succ.ensures.fault)

pub returns-in-Some-clause-found : goal.returns-in-Some-clause-found
returns-in-Some-clause-found c =
    sides_found c.args.table.now c.args.text.now c.loop-right.left.now c.loop-right.ante.items c.loop-right.invariant c.in-Some.right.now
    c.in_ok-succ.succ.items c.in-Some.ensures.found c.in_ok-succ.ensures.found

pub returns-in_default-cut_at-clause-fault : goal.returns-in_default-cut_at-clause-fault
returns-in_default-cut_at-clause-fault c =
    space_wanted c.args.table.now c.args.text.now c.loop-right.left.now c.loop-right.ante.items c.loop-right.invariant c.in_default.ensures.none
    c.in_default-cut_at.ensures.none

pub returns-in_default-node_numbered-clause-fault : goal.returns-in_default-node_numbered-clause-fault
returns-in_default-node_numbered-clause-fault c =
    number_wanted c.args.table.now c.args.text.now c.loop-right.left.now c.loop-right.ante.items c.loop-right.invariant c.in_default.ensures.none
    c.in-Some-cut_at.digits.now c.in-Some-cut_at.more.now c.in-Some-cut_at.ensures.found c.in_default-node_numbered.ensures

pub loop-right-preserved : goal.loop-right-preserved
loop-right-preserved c =
    subst (SidesSoFar c.args.table.now c.args.text.now c.in-Some-cut_at.more.now) (sym c.in_ok-push.ensures.items)
    (one_side_more c.args.table.now c.args.text.now c.loop-right.left.now c.loop-right.ante.items c.loop-right.invariant c.in_default.ensures.none
    c.in-Some-cut_at.digits.now c.in-Some-cut_at.more.now c.in-Some-cut_at.ensures.found c.in-Some-node_numbered.id c.in-Some-node_numbered.ensures)
