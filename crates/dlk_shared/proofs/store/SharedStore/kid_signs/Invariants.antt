use Rattle.std.proofs.Common.{◌≡◌, ◌||◌, drop}
use Rattle.std.specs.Prelude.{All}
use Rattle.std.specs.List.{list_any}
use Rattle.dlk_tree.specs.Occurs.{any_has, has_symbol}
use Rattle.dlk_tree.specs.declared.op.Sym.{Sym}
use Rattle.dlk_store.specs.Stores.{kid_trees}
use Rattle.dlk_shared.specs.Nodes.{trees_of}
use Rattle.dlk_shared.specs.Signs.{sign_at, IsSign}
use Rattle.dlk_shared.proofs.store.SharedStore.kid_signs.Given as goal

abbrev pub invariant-loop-k : goal.invariant-loop-k
invariant-loop-k l =
    let trees = trees_of l.self.ops.keys l.self.nodes.entries in
    record {
      are : (s : Sym) → (list_any (λ k. sign_at l.self.signs k s) l.found.items || any_has (has_symbol s) (kid_trees trees (drop l.k-index l.kids)))
          ≡ any_has (has_symbol s) (kid_trees trees l.kids);
      known : All (IsSign l.self.signs) l.found.items;
    }
