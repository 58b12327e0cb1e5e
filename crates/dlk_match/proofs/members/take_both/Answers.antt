use Rattle.std.proofs.Common.{subst, arith, List}
use Rattle.dlk_sequent.specs.Extras.{extra_at}
use Rattle.dlk_calculus.specs.Subst.{Member}
use Rattle.dlk_match.specs.Matching.{GetsReplacement, system_of}
use Rattle.dlk_match.specs.Members.{members_at}
use Rattle.dlk_match.specs.Tried.{Tried}
use Rattle.dlk_match.proofs.SomeMembers.{more_items, some_members, members_kept, well_made_kept}
use Rattle.dlk_match.proofs.MembersTaken.{both_few, both_unreplaced, both_taken}
use Rattle.dlk_match.proofs.members.take_both.Goals as goal

pub returns-in_default-clause-matched : goal.returns-in_default-clause-matched
returns-in_default-clause-matched g c = λ other sides taken.
    let trees = g.S.Store.trees c.args.store.now in
    c.in_default.ensures trees c.requires.members (omega arith) (more_items trees c.args.ms.now (both_few taken))

pub returns-then-not-branch-clause-matched : goal.returns-then-not-branch-clause-matched
returns-then-not-branch-clause-matched g c =
    let before = g.S.Store.trees c.args.store.now in
    let mid = extra_at (g.S.Store.trees c.take_system.new.store) c.take_system.new.extra in
    let old = extra_at before c.args.extra.now in
    let s = c.args.s.now in
    let first = members_at before c.in-Some.first in
    let parts = c.in-Some.ensures before c.requires.members in
    let none = subst (Tried (GetsReplacement s (system_of first)) old mid) c.if-not-branch.true c.in_ok-take_system.ensures.matched in
    both_unreplaced (members_at before c.args.ms.now) first (members_at before c.in-Some.others) parts.whole old s c.args.t.now parts.count none

pub take_system-requires-2-clause-members : goal.take_system-requires-2-clause-members
take_system-requires-2-clause-members g c =
    let before = g.S.Store.trees c.args.store.now in
    let keeps = g.met.S.Store.grows_keeps c.args.store.now c.take_system.new.store c.in_ok-take_system.ensures.grows in
    well_made_kept keeps c.in-Some.others (c.in-Some.ensures before c.requires.members).others

pub returns-clause-matched : goal.returns-clause-matched
returns-clause-matched g c =
    let before = g.S.Store.trees c.args.store.now in
    let between = g.S.Store.trees c.take_system.new.store in
    let now = g.S.Store.trees c.take_system-2.new.store in
    let old = extra_at before c.args.extra.now in
    let mid = extra_at between c.take_system.new.extra in
    let new = extra_at now c.take_system-2.new.extra in
    let s = c.args.s.now in
    let t = c.args.t.now in
    let first = members_at before c.in-Some.first in
    let others = members_at before c.in-Some.others in
    let keeps = g.met.S.Store.grows_keeps c.args.store.now c.take_system.new.store c.in_ok-take_system.ensures.grows in
    let parts = c.in-Some.ensures before c.requires.members in
    let replaced = subst (Tried (GetsReplacement s (system_of first)) old mid) c.if-not-branch.false c.in_ok-take_system.ensures.matched in
    let kept = members_kept keeps c.in-Some.others parts.others in
    let tried = subst (λ (ms : List Member). Tried (GetsReplacement t (system_of ms)) mid new c.in_ok-is.is') kept c.in_ok-is.ensures.matched in
    rw c.leaving_none.ensures (both_taken (members_at before c.args.ms.now) first others parts.whole old s t parts.count now mid new c.in_ok-is.is'
    (some_members others parts.others.well_made) replaced tried)
