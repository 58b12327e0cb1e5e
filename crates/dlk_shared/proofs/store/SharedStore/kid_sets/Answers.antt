use Rattle.std.proofs.Common.{subst, sym, ap, ◌∙◌, ◌++◌, ◌+◌, drop}
use Rattle.std.specs.Prelude.{All, map}
use Rattle.dlk_tree.specs.Statics.{sets_all}
use Rattle.dlk_store.specs.declared.Id.{Id}
use Rattle.dlk_store.specs.Stores.{kid_trees}
use Rattle.dlk_shared.specs.Nodes.{trees_of}
use Rattle.dlk_shared.specs.SetTables.{AreSets, sets_at}
use Rattle.dlk_shared.proofs.SetLemmas.{mean_are_sets}
use Rattle.dlk_shared.proofs.KidNodes.{one_more, known_more}
use Rattle.dlk_shared.proofs.store.SharedStore.kid_sets.Goals as goal

pub loop-k-preserved : goal.loop-k-preserved
loop-k-preserved c =
    let s = c.args.self.now in
    let trees = trees_of s.ops.keys s.nodes.entries in
    let kids = c.args.kids.now in
    let found = c.loop-k.found.items in
    let n = c.facts.result.sets in
    let d : Id = record { 0 = 0 } in
    record {
      are = ap (λ l. map (sets_at s.sets) l ++ sets_all (kid_trees trees (drop (c.loop-k.k-index + 1) kids))) c.in_ok-push.ensures.items
          ∙ one_more s.sets trees kids found n c.loop-k.k-index d c.loop-k-test.true c.facts.ensures.sets_are
          ∙ c.loop-k.invariant.are;
      known = subst (All (AreSets s.sets)) (sym c.in_ok-push.ensures.items)
          (known_more s.sets found n c.loop-k.invariant.known (mean_are_sets c.facts.ensures.sets_are));
    }
