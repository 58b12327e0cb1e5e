use Rattle.std.proofs.Common.{◌≡◌, ◌+◌, ◌*◌, ◌||◌, drop}
use Rattle.dlk_tree.specs.Trees.{size, size_all}
use Rattle.dlk_tree.specs.Statics.{plain, prime, free_in_kids, bound_in_kids, sets_all}
use Rattle.dlk_store.specs.Stores.{tree, kid_trees}
use Rattle.dlk_plain.specs.Plain.{trees_of}
use Rattle.dlk_plain.proofs.store.PlainStore.+sets.Given as goal

abbrev pub decreases-of_kids : goal.decreases-of_kids
decreases-of_kids l = 2 * size_all (kid_trees (trees_of l.self.now.nodes.items) l.kids.now) + 1

abbrev pub decreases-sets_at : goal.decreases-sets_at
decreases-sets_at l = 2 * size (tree (trees_of l.self.now.nodes.items) l.id)

abbrev pub invariant-of_kids-loop-k : goal.invariant-of_kids-loop-k
invariant-of_kids-loop-k l =
    let all = sets_all (kid_trees (trees_of l.self.nodes.items) l.kids) in
    let rest = sets_all (kid_trees (trees_of l.self.nodes.items) (drop l.k-index l.kids)) in
    record {
      free : l.free.plain || free_in_kids rest (plain l.name) ≡ free_in_kids all (plain l.name);
      free' : l.free.prime || free_in_kids rest (prime l.name) ≡ free_in_kids all (prime l.name);
      bound : l.bound.plain || bound_in_kids rest (plain l.name) ≡ bound_in_kids all (plain l.name);
      bound' : l.bound.prime || bound_in_kids rest (prime l.name) ≡ bound_in_kids all (prime l.name);
    }
