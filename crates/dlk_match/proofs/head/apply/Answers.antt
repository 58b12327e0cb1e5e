use Rattle.std.proofs.Common.{subst}
use Rattle.dlk_tree.specs.Trees.{Tree}
use Rattle.dlk_store.specs.Stores.{tree, kid_trees}
use Rattle.dlk_calculus.specs.Pairs.{Extra}
use Rattle.dlk_sequent.specs.Extras.{extra_at}
use Rattle.dlk_match.specs.Matching.{GetsReplacement}
use Rattle.dlk_match.specs.Tried.{Tried, IsArgument, IsNoArgument}
use Rattle.dlk_match.proofs.Heads.{applied_to_nothing, applied_to_none, applied_to_variable, not_empty, is_bare}
use Rattle.dlk_match.proofs.LeftKids.{extra_kept}
use Rattle.dlk_match.proofs.head.apply.Goals as goal

pub returns-in_default-clause-matched : goal.returns-in_default-clause-matched
returns-in_default-clause-matched g c =
    let trees = g.S.Store.trees c.args.store.now in
    let kids = kid_trees trees c.args.kids.now in
    let none = rw c.in_default.is at c.in_ok-v.ensures in
    λ other p.
    applied_to_none c.args.s.now kids (tree trees c.args.e) (extra_at trees c.args.extra.now) other
    (not_empty trees c.args.kids.now c.is_empty.result c.if-is_empty.false c.is_empty.ensures)
    (subst (λ rs. IsNoArgument rs kids) c.as_slice.ensures none) p

pub returns-then-is_empty-clause-matched : goal.returns-then-is_empty-clause-matched
returns-then-is_empty-clause-matched g c =
    let trees = g.S.Store.trees c.args.store.now in
    applied_to_nothing c.args.s.now (kid_trees trees c.args.kids.now) (tree trees c.args.e) (extra_at trees c.args.extra.now)
    (extra_at trees c.replace.new.extra)
    (is_bare trees c.args.kids.now c.is_empty.result c.if-is_empty.true c.is_empty.ensures) c.in_ok-replace.field-0 c.in_ok-replace.ensures.matched

pub returns-clause-matched : goal.returns-clause-matched
returns-clause-matched g c =
    let before = g.S.Store.trees c.args.store.now in
    let now = g.S.Store.trees c.abstract_var.new.store in
    let s = c.args.s.now in
    let kids = kid_trees before c.args.kids.now in
    let e = tree before c.args.e in
    let new = extra_at now c.replace-2.new.extra in
    let is = c.in_ok-replace-2.field-0 in
    let keeps = g.met.S.Store.grows_keeps c.args.store.now c.abstract_var.new.store c.in_ok-body.ensures.grows in
    let old_is = extra_kept keeps c.args.extra.now c.requires.extra in
    let body_is = c.in_ok-body.ensures.made.tree_is in
    let tried = subst (λ (old : Extra). Tried (GetsReplacement s (tree now c.in_ok-body.body)) old new is) old_is c.in_ok-replace-2.ensures.matched in
    let moved = subst (λ (t : Tree). Tried (GetsReplacement s t) (extra_at before c.args.extra.now) new is) body_is tried in
    let argument = rw c.in-Some.is at c.in_ok-v.ensures in
    applied_to_variable s kids e (extra_at before c.args.extra.now) new c.in-Some.v
    (subst (λ rs. IsArgument rs kids c.in-Some.v) c.as_slice.ensures argument) is moved
