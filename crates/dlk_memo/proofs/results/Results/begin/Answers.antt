use Rattle.std.proofs.Common.{◌≡◌, ◌+◌, ◌++◌, ap, subst, sym, None, length, length-append, arith}
use Rattle.dlk_memo.specs.Tables.{found, Puts}
use Rattle.dlk_memo.proofs.Tables.{one_more}
use Rattle.dlk_memo.proofs.Parts.{none_both, once_both, once_far, pushed, pushed_parts, put_far, far_parts}
use Rattle.dlk_memo.proofs.results.Results.begin.Goals as goal

pub invariant_of-self : goal.invariant_of-self
invariant_of-self c =
    pushed_parts c.self.invariant c.args.id None (c.push.ensures.there c.if-push.true)
    (subst (λ t. found t c.args.id ≡ None) (sym c.self.view_is) c.requires)

pub returns-then-push-clause-put : goal.returns-then-push-clause-put
returns-then-push-clause-put c =
    let none = subst (λ t. found t c.args.id ≡ None) (sym c.self.view_is) c.requires in
    subst (λ t. Puts t (c.push.new.self ++ c.self.inside.far.entries) c.args.id None) c.self.view_is
    (pushed c.self.invariant c.args.id None (c.push.ensures.there c.if-push.true) none)

pub returns-then-push-clause-once : goal.returns-then-push-clause-once
returns-then-push-clause-once c =
    let none = subst (λ t. found t c.args.id ≡ None) (sym c.self.view_is) c.requires in
    once_both (pushed_parts c.self.invariant c.args.id None (c.push.ensures.there c.if-push.true) none)

pub returns-in_err-insert-clause-once : goal.returns-in_err-insert-clause-once
returns-in_err-insert-clause-once c =
    rw (c.push.ensures.full c.if-push.false) (once_far c.self.invariant c.in_err-insert.ensures.err)

pub invariant_of-self-2 : goal.invariant_of-self-2
invariant_of-self-2 c =
    let none = none_both _ _ c.args.id (subst (λ t. found t c.args.id ≡ None) (sym c.self.view_is) c.requires) in
    rw (c.push.ensures.full c.if-push.false)
    (far_parts c.self.invariant c.args.id None c.insert.new.self.entries none.0 (λ k. c.in_ok-insert.ensures.updates.0 k) c.in_ok-insert.ensures.unique)

pub returns-clause-put : goal.returns-clause-put
returns-clause-put c =
    let none = none_both _ _ c.args.id (subst (λ t. found t c.args.id ≡ None) (sym c.self.view_is) c.requires) in
    rw (c.push.ensures.full c.if-push.false)
    (subst (λ t. Puts t (c.self.inside.near ++ c.insert.new.self.entries) c.args.id None) c.self.view_is
    (put_far c.self.invariant c.args.id None c.insert.new.self.entries none.0 (λ k. c.in_ok-insert.ensures.updates.0 k)))

pub returns-clause-long : goal.returns-clause-long
returns-clause-long c =
    let near = c.self.inside.near in
    let far = c.self.inside.far.entries in
    let new = c.insert.new.self.entries in
    let none : found far c.args.id ≡ None = (none_both near far c.args.id (subst (λ t. found t c.args.id ≡ None) (sym c.self.view_is) c.requires)).1 in
    let long : length new ≡ length far + 1 = one_more (length new) (length far) _ _ c.in_ok-insert.ensures.len c.in_ok-insert.ensures.old none in
    let before : length (near ++ far) ≡ length c.args.self.now = ap length c.self.view_is in
    let same = ap (λ t. length (t ++ new)) (c.push.ensures.full c.if-push.false) in
    omega (arith, long, before, same, length-append near far, length-append near new)

pub returns-clause-once : goal.returns-clause-once
returns-clause-once c =
    let none = none_both _ _ c.args.id (subst (λ t. found t c.args.id ≡ None) (sym c.self.view_is) c.requires) in
    rw (c.push.ensures.full c.if-push.false)
    (once_both (far_parts c.self.invariant c.args.id None c.insert.new.self.entries none.0 (λ k. c.in_ok-insert.ensures.updates.0 k)
    c.in_ok-insert.ensures.unique))
