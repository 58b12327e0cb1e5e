use Rattle.std.proofs.Common.{refl, sym, subst, take}
use Rattle.std.proofs.lemmas.List.{take_all}
use Rattle.std.proofs.lemmas.List.Elements.{All-more, All-same}
use Rattle.dlk_store.specs.Stores.{kid_trees}
use Rattle.dlk_subst.specs.Scopes.{scope_set}
use Rattle.dlk_subst.proofs.Admissible.{IsSafe, all_safe, safe_all}
use Rattle.dlk_subst.proofs.pairs.is_admissible.Goals as goal

pub returns-then-not-is_safe : goal.returns-then-not-is_safe
returns-then-not-is_safe g c =
    let trees = g.S.Store.trees c.args.store.now in
    let set = scope_set trees c.args.scope.now in
    let kids = kid_trees trees c.args.kids.now in
    let pair = c.pair-item.result in (
      λ e. cc,
      λ adm.
          let safe = subst (IsSafe trees set kids) (sym c.pair-item.is)
          (safe_all trees set kids c.args.pairs.now adm c.loop-pair.pair-index pair c.loop-pair-test.true) in
          let yes = c.is_safe.ensures.1 safe in
          cc,
    )

pub loop-pair-preserved : goal.loop-pair-preserved
loop-pair-preserved g c =
    let trees = g.S.Store.trees c.args.store.now in
    let safe = IsSafe trees (scope_set trees c.args.scope.now) (kid_trees trees c.args.kids.now) in
    let pair = c.pair-item.result in
    All-more safe c.args.pairs.now c.loop-pair.pair-index pair c.loop-pair-test.true c.loop-pair.invariant
    (subst safe c.pair-item.is (c.is_safe.ensures.0 c.if-not-is_safe.false))

pub returns : goal.returns
returns g c =
    let trees = g.S.Store.trees c.args.store.now in
    let set = scope_set trees c.args.scope.now in
    let kids = kid_trees trees c.args.kids.now in
    let pairs = c.args.pairs.now in (
      λ e. all_safe trees set kids pairs
          (All-same (IsSafe trees set kids) pairs (take c.loop-pair.pair-index pairs)
          (sym (take_all c.loop-pair.pair-index pairs c.loop-pair-test.false)) c.loop-pair.invariant),
      λ adm. refl,
    )
