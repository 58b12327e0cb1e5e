use Rattle.std.proofs.Common.{refl, sym, subst, get_or, arith}
use Rattle.dlk_store.specs.Stores.{kid_trees}
use Rattle.dlk_store.specs.declared.Id.{Id}
use Rattle.dlk_subst.specs.Scopes.{scope_set}
use Rattle.dlk_subst.proofs.Arguments.{IsSafe, clear_of, safe_of}
use Rattle.dlk_subst.proofs.plug.is_clear.Goals as goal
use borrow.Author.Count.{below_more}

pub returns-then-not-is_safe : goal.returns-then-not-is_safe
returns-then-not-is_safe g c =
    let trees = g.S.Store.trees c.args.store.now in
    let set = scope_set trees c.args.scope.now in
    let kids = kid_trees trees c.args.kids.now in
    let d : Id = record { 0 = 0 } in
    let i = c.loop-arg.arg-index in (
      λ e. cc,
      λ clear.
          let safe = subst (λ n. IsSafe trees set kids n (get_or c.args.args.now i d)) (sym c.loop-arg.invariant.count)
          (safe_of trees set kids c.args.args.now i d c.loop-arg-test.true clear) in
          let yes = c.is_safe.ensures.1 safe in
          cc,
    )

pub loop-arg-preserved : goal.loop-arg-preserved
loop-arg-preserved g c =
    let trees = g.S.Store.trees c.args.store.now in
    let d : Id = record { 0 = 0 } in
    let i = c.loop-arg.arg-index in
    let safe = IsSafe trees (scope_set trees c.args.scope.now) (kid_trees trees c.args.kids.now) in
    record {
      count = omega arith;
      safe =
          below_more (λ m. safe m (get_or c.args.args.now m d)) i c.loop-arg.invariant.safe
          (subst (λ n. safe n (get_or c.args.args.now i d)) c.loop-arg.invariant.count (c.is_safe.ensures.0 c.if-not-is_safe.false));
    }

pub returns : goal.returns
returns g c =
    let trees = g.S.Store.trees c.args.store.now in
    let d : Id = record { 0 = 0 } in (
      λ e. clear_of trees (scope_set trees c.args.scope.now) (kid_trees trees c.args.kids.now) c.args.args.now d
          (λ n h. c.loop-arg.invariant.safe n (omega (arith, h, c.loop-arg-test.false))),
      λ clear. refl,
    )
