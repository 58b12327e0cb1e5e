-- Kids of a node.
use Rattle.std.proofs.Common.{◌≡◌, ◌<◌, ◌≤◌, List, [], ◌∷◌, length, drop, None, refl, arith}
use Rattle.dlk_tree.specs.Trees.{Tree, node, size, size_all}
use Rattle.dlk_store.specs.Stores.{tree, kid_trees}
use Rattle.dlk_store.specs.declared.Id.{Id}
use Rattle.dlk_smt.specs.Smt.{exponent}

-- a tree has a node
pub some_size : (t : Tree) → 1 ≤ size t
some_size (node op kids) = omega arith

-- without a second kid there is no exponent
pub no_exponent : (trees : List Tree) (ks : List Id) → length ks < 2 → None ≡ exponent (kid_trees trees ks)
no_exponent trees [] h = refl
no_exponent trees (k ∷ []) h = refl
no_exponent trees (k ∷ l ∷ ks) h = absurd (omega (arith, h))

-- the kids behind the first are smaller than all of them
pub rest_smaller : (trees : List Tree) (ks : List Id) → 1 ≤ length ks → size_all (kid_trees trees (drop 1 ks)) < size_all (kid_trees trees ks)
rest_smaller trees [] h = absurd (omega (arith, h))
rest_smaller trees (k ∷ ks) h = omega (arith, some_size (tree trees k))
