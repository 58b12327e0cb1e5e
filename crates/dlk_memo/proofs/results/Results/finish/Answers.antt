use Rattle.std.proofs.Common.{◌++◌, subst, Some}
use Rattle.dlk_memo.specs.Tables.{Puts}
use Rattle.dlk_memo.proofs.Parts.{once_both, once_far, placed, not_placed, set_at, set_parts, put_far, far_parts}
use Rattle.dlk_memo.proofs.results.Results.finish.Goals as goal

pub invariant_of-self : goal.invariant_of-self
invariant_of-self c =
    set_parts c.self.invariant c.args.id (Some c.args.made) c.set.ensures
    (placed c.self.inside.near c.args.id c.as_slice.result.now c.as_slice.ensures.items c.in-Some.i c.in-Some.ensures)

pub returns-in-Some-clause-put : goal.returns-in-Some-clause-put
returns-in-Some-clause-put c =
    let near = c.self.inside.near in
    let there = placed near c.args.id c.as_slice.result.now c.as_slice.ensures.items c.in-Some.i c.in-Some.ensures in
    subst (λ t. Puts t (c.set.new.self ++ c.self.inside.far.entries) c.args.id (Some c.args.made)) c.self.view_is
    (set_at c.self.invariant c.args.id (Some c.args.made) c.set.ensures there)

pub returns-in-Some-clause-once : goal.returns-in-Some-clause-once
returns-in-Some-clause-once c =
    let there = placed c.self.inside.near c.args.id c.as_slice.result.now c.as_slice.ensures.items c.in-Some.i c.in-Some.ensures in
    once_both (set_parts c.self.invariant c.args.id (Some c.args.made) c.set.ensures there)

pub returns-in_err-insert-clause-once : goal.returns-in_err-insert-clause-once
returns-in_err-insert-clause-once c = once_far c.self.invariant c.in_err-insert.ensures.err

pub invariant_of-self-2 : goal.invariant_of-self-2
invariant_of-self-2 c =
    let none = not_placed c.self.inside.near c.args.id c.as_slice.result.now c.as_slice.ensures.items c.in_default.ensures in
    far_parts c.self.invariant c.args.id (Some c.args.made) c.insert.new.self.entries none (λ k. c.in_ok-insert.ensures.updates.0 k)
    c.in_ok-insert.ensures.unique

pub returns-clause-put : goal.returns-clause-put
returns-clause-put c =
    let none = not_placed c.self.inside.near c.args.id c.as_slice.result.now c.as_slice.ensures.items c.in_default.ensures in
    subst (λ t. Puts t (c.self.inside.near ++ c.insert.new.self.entries) c.args.id (Some c.args.made)) c.self.view_is
    (put_far c.self.invariant c.args.id (Some c.args.made) c.insert.new.self.entries none (λ k. c.in_ok-insert.ensures.updates.0 k))

pub returns-clause-once : goal.returns-clause-once
returns-clause-once c =
    let none = not_placed c.self.inside.near c.args.id c.as_slice.result.now c.as_slice.ensures.items c.in_default.ensures in
    once_both
    (far_parts c.self.invariant c.args.id (Some c.args.made) c.insert.new.self.entries none (λ k. c.in_ok-insert.ensures.updates.0 k)
    c.in_ok-insert.ensures.unique)

pub set-requires-clause-few : goal.set-requires-clause-few
set-requires-clause-few c = c.as_slice.ensures.few

pub set-requires-clause-within : goal.set-requires-clause-within
set-requires-clause-within c =
    (placed c.self.inside.near c.args.id c.as_slice.result.now c.as_slice.ensures.items c.in-Some.i c.in-Some.ensures).within
