use Rattle.std.proofs.Common.{◌≡◌, subst, rules}
use Rattle.dlk_store.specs.Stores.{tree, kid_trees}
use Rattle.dlk_sequent.specs.Extras.{extra_at}
use Rattle.dlk_match.specs.Tried.{Tried, IsLike}
use Rattle.dlk_match.proofs.Heads.{head_refused, head_left}
use Rattle.dlk_match.proofs.head.match_other.Goals as goal

pub returns-then-not-branch-clause-matched : goal.returns-then-not-branch-clause-matched
returns-then-not-branch-clause-matched g c = λ keys.
    let trees = g.S.Store.trees c.args.store.now in
    let old = extra_at trees c.args.extra.now in
    let none = subst (Tried (IsLike c.args.op.now c.look-node.result.op.now) old (extra_at trees c.like.new.extra)) c.if-not-branch.true
    (c.in_ok-like.ensures.matched trees) in
    head_refused keys (tree trees c.args.target) old old c.args.op.now c.look-node.result.op.now
    (kid_trees trees c.look-node.result.kids.now) c.look-node.ensures.node c.requires.other none

pub returns-clause-matched : goal.returns-clause-matched
returns-clause-matched g c = λ keys.
    let trees = g.S.Store.trees c.args.store.now in
    let old = extra_at trees c.args.extra.now in
    let new = extra_at trees c.like.new.extra in
    let kids = c.look-node.result.kids.now in
    let items : c.in_ok-to_vec.field-0.items ≡ kids = search rules in
    let like = subst (Tried (IsLike c.args.op.now c.look-node.result.op.now) old new) c.if-not-branch.false (c.in_ok-like.ensures.matched trees) in
    let left = head_left keys (tree trees c.args.target) old new c.args.op.now c.look-node.result.op.now
    (kid_trees trees kids) c.look-node.ensures.node c.requires.other like in
    rw items (c.look-node.ensures.known, left)
