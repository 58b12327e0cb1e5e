use Rattle.std.proofs.Common.{sym, ap, subst, ◌∙◌, ◌||◌, ◌+◌, drop}
use Rattle.std.specs.Prelude.{All}
use Rattle.std.specs.List.{list_any}
use Rattle.dlk_tree.specs.Occurs.{any_has, has_symbol}
use Rattle.dlk_store.specs.declared.Id.{Id}
use Rattle.dlk_store.specs.Stores.{kid_trees}
use Rattle.dlk_shared.specs.Nodes.{trees_of}
use Rattle.dlk_shared.specs.Signs.{sign_at, IsSign}
use Rattle.dlk_shared.proofs.KidNodes.{sign_more, known_sign_more}
use Rattle.dlk_shared.proofs.store.SharedStore.kid_signs.Goals as goal

pub loop-k-preserved : goal.loop-k-preserved
loop-k-preserved c =
    let s = c.args.self.now in
    let trees = trees_of s.ops.keys s.nodes.entries in
    let kids = c.args.kids.now in
    let found = c.loop-k.found.items in
    let n = c.facts.result.sign in
    let d : Id = record { 0 = 0 } in
    let more = c.in_ok-push.ensures.items in
    record {
      are = λ x. ap (λ l. list_any (λ k. sign_at s.signs k x) l || any_has (has_symbol x) (kid_trees trees (drop (c.loop-k.k-index + 1) kids))) more
          ∙ sign_more s.signs trees kids found n c.loop-k.k-index d c.loop-k-test.true c.facts.ensures.sign_is x
          ∙ c.loop-k.invariant.are x;
      known = subst (All (IsSign s.signs)) (sym more) (known_sign_more s.signs found n c.loop-k.invariant.known c.facts.ensures.sign_is.is);
    }
