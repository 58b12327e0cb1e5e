use Rattle.std.proofs.Common.{ℕ, ◌<◌, drop, length, get_or}
use Rattle.std.specs.Prelude.{All}
use Rattle.std.specs.Str.{bytes_eq}
use Rattle.dlk_tree.specs.Trees.{size}
use Rattle.dlk_tree.specs.Occurs.{any_has}
use Rattle.dlk_tree.specs.Named.{any_name, is_named}
use Rattle.dlk_store.specs.Stores.{IsId, tree, kid_trees}
use Rattle.dlk_store.specs.declared.Id.{Id}
use Rattle.dlk_plain.specs.Plain.{trees_of}
use Rattle.dlk_plain.proofs.Owed.{Owes}
use Rattle.dlk_plain.proofs.store.PlainStore.+names_at.Given as goal

abbrev pub decreases-names_at : goal.decreases-names_at
decreases-names_at l = size (tree (trees_of l.self.now.nodes.items) l.id)

abbrev pub invariant-loop-k : goal.invariant-loop-k
invariant-loop-k l =
    let trees = trees_of l.self.nodes.items in
    record {
      rest : Owes bytes_eq (λ y. any_has (any_name (bytes_eq y)) (kid_trees trees (drop l.k-index l.k-items))) (λ y. is_named y (tree trees l.fn.id))
          l.fn.names.keys l.names.keys;
      known : All (IsId trees) l.k-items;
      smaller : (i : ℕ) (d : Id) → i < length l.k-items → size (tree trees (get_or l.k-items i d)) < size (tree trees l.fn.id);
    }
