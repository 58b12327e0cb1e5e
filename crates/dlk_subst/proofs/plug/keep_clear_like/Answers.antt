use Rattle.std.proofs.Common.{refl, sym, ap, subst}
use Rattle.dlk_tree.specs.Trees.{root}
use Rattle.dlk_store.specs.Stores.{tree, kid_trees}
use Rattle.dlk_calculus.specs.Plug.{IsClear}
use Rattle.dlk_subst.specs.Results.{args_at}
use Rattle.dlk_subst.specs.Scopes.{scope_set, scope_by, reach_by}
use Rattle.dlk_subst.specs.Growth.{known_kept}
use Rattle.dlk_subst.specs.Growth.{args_kept}
use Rattle.dlk_subst.proofs.Captured.{made_scope, made_known, reached_trees, reached_known}
use Rattle.dlk_subst.proofs.Staying.{stays, stays_not}
use Rattle.dlk_subst.proofs.plug.keep_clear_like.Goals as goal

pub clears-requires-clause-args : goal.clears-requires-clause-args
clears-requires-clause-args g c =
    known_kept (g.met.S.Store.grows_keeps c.args.store.now c.make_like.new.self c.in_ok-made.ensures.grows) c.args.args.now c.requires.args

pub clears-requires-clause-scope : goal.clears-requires-clause-scope
clears-requires-clause-scope g c =
    let kept = g.met.S.Store.grows_keeps c.args.store.now c.make_like.new.self c.in_ok-made.ensures.grows in
    made_known kept (root (tree (g.S.Store.trees c.args.store.now) c.args.like)) (root (tree (g.S.Store.trees c.args.store.now) c.args.like)) refl
    c.args.new.now c.requires.new c.in_ok-made.made
    c.in_ok-made.ensures.made (scope_by c.args.captures c.args.new.now c.in_ok-made.made) (ap (λ k. scope_by k c.args.new.now c.in_ok-made.made)
    c.requires.captures) c.requires.fits

pub clears-requires-clause-kids : goal.clears-requires-clause-kids
clears-requires-clause-kids g c =
    reached_known (g.met.S.Store.grows_keeps c.args.store.now c.make_like.new.self c.in_ok-made.ensures.grows) (root (tree (g.S.Store.trees
    c.args.store.now) c.args.like)) c.args.old.now
    (reach_by c.args.captures c.args.old.now) c.requires.old (ap (λ k. reach_by k c.args.old.now) c.requires.captures)

pub returns-then-clears-clause-ok : goal.returns-then-clears-clause-ok
returns-then-clears-clause-ok g c =
    let before = g.S.Store.trees c.args.store.now in
    let now = g.S.Store.trees c.make_like.new.self in
    let op = root (tree before c.args.like) in
    let kept = g.met.S.Store.grows_keeps c.args.store.now c.make_like.new.self c.in_ok-made.ensures.grows in
    let set = made_scope kept op op refl c.args.new.now c.requires.new c.in_ok-made.made c.in_ok-made.ensures.made
    (scope_by c.args.captures c.args.new.now c.in_ok-made.made) (ap (λ k. scope_by k c.args.new.now c.in_ok-made.made) c.requires.captures) in
    let kids = reached_trees kept op c.args.old.now (reach_by c.args.captures c.args.old.now) c.requires.old (ap (λ k. reach_by k c.args.old.now)
    c.requires.captures) in
    let stands = c.in_ok-made.ensures.made in
    let holds = subst (λ args. IsClear args (scope_set now (scope_by c.args.captures c.args.new.now c.in_ok-made.made)) (kid_trees now (reach_by
    c.args.captures c.args.old.now)))
    (args_kept kept c.args.args.now c.requires.args) (c.clears.ensures.0 c.if-clears.true) in
    stays (IsClear (args_at before c.args.args.now)) op (kid_trees before c.args.old.now) (kid_trees before c.args.new.now) set kids now
    c.in_ok-made.made stands holds

pub returns-else-clears-clause-none : goal.returns-else-clears-clause-none
returns-else-clears-clause-none g c e =
    let before = g.S.Store.trees c.args.store.now in
    let now = g.S.Store.trees c.make_like.new.self in
    let op = root (tree before c.args.like) in
    let kept = g.met.S.Store.grows_keeps c.args.store.now c.make_like.new.self c.in_ok-made.ensures.grows in
    let set = made_scope kept op op refl c.args.new.now c.requires.new c.in_ok-made.made c.in_ok-made.ensures.made
    (scope_by c.args.captures c.args.new.now c.in_ok-made.made) (ap (λ k. scope_by k c.args.new.now c.in_ok-made.made) c.requires.captures) in
    let kids = reached_trees kept op c.args.old.now (reach_by c.args.captures c.args.old.now) c.requires.old (ap (λ k. reach_by k c.args.old.now)
    c.requires.captures) in
    stays_not (IsClear (args_at before c.args.args.now)) op (kid_trees before c.args.old.now) (kid_trees before c.args.new.now) set kids
    (λ holds.
    let yes = c.clears.ensures.1 (subst (λ args. IsClear args (scope_set now (scope_by c.args.captures c.args.new.now c.in_ok-made.made))
    (kid_trees now (reach_by c.args.captures c.args.old.now)))
    (sym (args_kept kept c.args.args.now c.requires.args)) holds) in
    cc)
