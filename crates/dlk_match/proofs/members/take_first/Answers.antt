use Rattle.std.proofs.Common.{subst, arith}
use Rattle.dlk_store.specs.Stores.{tree}
use Rattle.dlk_sequent.specs.Extras.{extra_at}
use Rattle.dlk_match.specs.Matching.{GetsName}
use Rattle.dlk_match.specs.Members.{members_at}
use Rattle.dlk_match.specs.Tried.{Tried}
use Rattle.dlk_match.proofs.SomeMembers.{more_items, some_members}
use Rattle.dlk_match.proofs.MembersTaken.{first_few, first_unlike, first_unnamed, first_taken}
use Rattle.dlk_match.proofs.members.take_first.Goals as goal

pub returns-in_default-clause-matched : goal.returns-in_default-clause-matched
returns-in_default-clause-matched g c = λ other sides taken.
    let trees = g.S.Store.trees c.args.store.now in
    c.in_default.ensures trees c.requires.members (omega arith) (more_items trees c.args.ms.now (first_few taken))

pub returns-in_default-equation-clause-matched : goal.returns-in_default-equation-clause-matched
returns-in_default-equation-clause-matched g c =
    let trees = g.S.Store.trees c.args.store.now in
    let parts = c.in-Some.ensures trees c.requires.members in
    let old = extra_at trees c.args.extra.now in
    first_unlike (members_at trees c.args.ms.now) (members_at trees c.in-Some.first) (members_at trees c.in-Some.others) parts.whole old
    c.args.x.now c.args.s.now parts.count (c.in_default-equation.ensures trees parts.front)

pub returns-then-not-branch-clause-matched : goal.returns-then-not-branch-clause-matched
returns-then-not-branch-clause-matched g c =
    let trees = g.S.Store.trees c.args.store.now in
    let old = extra_at trees c.args.extra.now in
    let x = c.args.x.now in
    let y = c.in-Some-equation.y.now in
    let parts = c.in-Some.ensures trees c.requires.members in
    let equation = c.in-Some-equation.ensures trees parts.front in
    let none = subst (Tried (GetsName x y) old (extra_at trees c.rename.new.extra)) c.if-not-branch.true (c.in_ok-rename.ensures.matched trees) in
    first_unnamed (members_at trees c.args.ms.now) (members_at trees c.in-Some.first) (members_at trees c.in-Some.others) parts.whole old
    x c.args.s.now parts.count y (tree trees c.in-Some-equation.e) equation.member_is none

pub returns-clause-matched : goal.returns-clause-matched
returns-clause-matched g c =
    let before = g.S.Store.trees c.args.store.now in
    let now = g.S.Store.trees c.take_system.new.store in
    let old = extra_at before c.args.extra.now in
    let mid = extra_at before c.rename.new.extra in
    let x = c.args.x.now in
    let y = c.in-Some-equation.y.now in
    let e = c.in-Some-equation.e in
    let keeps = g.met.S.Store.grows_keeps c.args.store.now c.take_system.new.store c.in_ok-is.ensures.grows in
    let parts = c.in-Some.ensures before c.requires.members in
    let equation = c.in-Some-equation.ensures before parts.front in
    let named = subst (Tried (GetsName x y) old mid) c.if-not-branch.false (c.in_ok-rename.ensures.matched before) in
    let others = members_at before c.in-Some.others in
    rw c.leaving.ensures (first_taken (members_at before c.args.ms.now) (members_at before c.in-Some.first) others parts.whole old
    x c.args.s.now parts.count y (tree before e) equation.member_is now e mid (extra_at now c.take_system.new.extra) c.in_ok-is.is'
    (omega (arith, keeps.known, equation.known)) (keeps.same e equation.known) (some_members others parts.others.well_made) named c.in_ok-is.ensures.matched)
