use Rattle.std.proofs.Common.{◌∙◌, subst, arith, length}
use Rattle.dlk_store.specs.Stores.{tree, kid_trees}
use Rattle.dlk_sequent.specs.Extras.{extra_at}
use Rattle.dlk_match.specs.Matching.{GetsReplacement, system_of}
use Rattle.dlk_match.specs.Members.{members_at}
use Rattle.dlk_match.specs.Tried.{Tried}
use Rattle.dlk_match.proofs.SomeMembers.{as_many_members, more_items, some_members}
use Rattle.dlk_match.proofs.MembersTaken.{one_behind, last_few, last_unlike, last_unreplaced, last_taken}
use Rattle.dlk_match.proofs.members.take_last.Goals as goal

pub returns-in_default-clause-matched : goal.returns-in_default-clause-matched
returns-in_default-clause-matched g c = λ other sides taken.
    let trees = g.S.Store.trees c.args.store.now in
    let more = more_items trees c.args.ms.now (last_few taken) in
    c.in_default.ensures trees c.requires.members (omega (arith, more, c.saturating_sub.ensures)) (omega (arith, more, c.saturating_sub.ensures))

pub returns-in_default-equation-clause-matched : goal.returns-in_default-equation-clause-matched
returns-in_default-equation-clause-matched g c =
    let trees = g.S.Store.trees c.args.store.now in
    let ms = members_at trees c.args.ms.now in
    let others = members_at trees c.in-Some.others in
    let last = members_at trees c.in-Some.last in
    let parts = c.in-Some.ensures trees c.requires.members in
    let many = as_many_members c.args.ms.now.items.now (kid_trees trees c.args.ms.now.kids.now) in
    let front = some_members others parts.front.well_made in
    let one = one_behind ms others last (length c.args.ms.now.items.now) parts.whole many (parts.count ∙ c.saturating_sub.ensures) front in
    last_unlike ms others last parts.whole (extra_at trees c.args.extra.now) c.args.s.now c.args.x.now one (c.in_default-equation.ensures trees parts.others)

pub returns-then-not-branch-clause-matched : goal.returns-then-not-branch-clause-matched
returns-then-not-branch-clause-matched g c =
    let before = g.S.Store.trees c.args.store.now in
    let mid = extra_at (g.S.Store.trees c.take_system.new.store) c.take_system.new.extra in
    let old = extra_at before c.args.extra.now in
    let s = c.args.s.now in
    let ms = members_at before c.args.ms.now in
    let others = members_at before c.in-Some.others in
    let last = members_at before c.in-Some.last in
    let parts = c.in-Some.ensures before c.requires.members in
    let many = as_many_members c.args.ms.now.items.now (kid_trees before c.args.ms.now.kids.now) in
    let front = some_members others parts.front.well_made in
    let one = one_behind ms others last (length c.args.ms.now.items.now) parts.whole many (parts.count ∙ c.saturating_sub.ensures) front in
    let none = subst (Tried (GetsReplacement s (system_of others)) old mid) c.if-not-branch.true c.in_ok-take_system.ensures.matched in
    last_unreplaced ms others last parts.whole old s c.args.x.now one none

pub returns-clause-matched : goal.returns-clause-matched
returns-clause-matched g c =
    let before = g.S.Store.trees c.args.store.now in
    let now = g.S.Store.trees c.take_system.new.store in
    let old = extra_at before c.args.extra.now in
    let mid = extra_at now c.take_system.new.extra in
    let s = c.args.s.now in
    let y = c.in-Some-equation.y.now in
    let e = c.in-Some-equation.e in
    let ms = members_at before c.args.ms.now in
    let others = members_at before c.in-Some.others in
    let last = members_at before c.in-Some.last in
    let keeps = g.met.S.Store.grows_keeps c.args.store.now c.take_system.new.store c.in_ok-take_system.ensures.grows in
    let parts = c.in-Some.ensures before c.requires.members in
    let equation = c.in-Some-equation.ensures before parts.others in
    let many = as_many_members c.args.ms.now.items.now (kid_trees before c.args.ms.now.kids.now) in
    let front = some_members others parts.front.well_made in
    let one = one_behind ms others last (length c.args.ms.now.items.now) parts.whole many (parts.count ∙ c.saturating_sub.ensures) front in
    let replaced = subst (Tried (GetsReplacement s (system_of others)) old mid) c.if-not-branch.false c.in_ok-take_system.ensures.matched in
    rw c.leaving.ensures (last_taken ms others last parts.whole old s c.args.x.now one y (tree before e) equation.member_is now e mid
    (extra_at now c.rename.new.extra) c.in_ok-rename.field-0 (omega (arith, keeps.known, equation.known)) (keeps.same e equation.known) front replaced
    (c.in_ok-rename.ensures.matched now))
