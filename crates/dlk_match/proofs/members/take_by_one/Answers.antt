use Rattle.std.proofs.Common.{sym, subst, [], ◌∷◌}
use Rattle.dlk_tree.specs.declared.op.OdeItem.{OdeItem}
use Rattle.dlk_sequent.specs.Extras.{extra_at}
use Rattle.dlk_match.specs.Members.{members_at, TakingIs, leaving_none}
use Rattle.dlk_match.proofs.MembersTaken.{by_constant}
use Rattle.dlk_match.proofs.members.take_by_one.Goals as goal

pub returns-in_ok-take_system-in-Const-clause-matched : goal.returns-in_ok-take_system-in-Const-clause-matched
returns-in_ok-take_system-in-Const-clause-matched g c =
    let before = g.S.Store.trees c.args.store.now in
    let now = g.S.Store.trees c.take_system.new.store in
    let ms = members_at before c.args.ms.now in
    let old = extra_at before c.args.extra.now in
    let new = extra_at now c.take_system.new.extra in
    let is = c.in_ok-take_system-in-Const.field-0 in
    let taken = by_constant c.in-Const.s ms now old new is c.in_ok-take_system-in-Const.ensures.matched in
    rw c.leaving_none.ensures (subst (λ (item : OdeItem). TakingIs (item ∷ []) ms now old new (leaving_none is)) (sym c.in-Const.is) taken)
