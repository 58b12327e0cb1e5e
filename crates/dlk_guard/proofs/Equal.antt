-- The test for equal trees.
use Rattle.std.specs.Prelude.{◌≡◌, ◌↔◌, Bool, true, false, IsTrue}
use Rattle.std.proofs.Common.{refl, sym}
use Rattle.dlk_tree.specs.Trees.{Tree}
use Rattle.dlk_tree.specs.TreeTests.{tree_eq}
use Rattle.dlk_tree.proofs.TreeSame.{tree_decides}

-- a test that holds exactly where the trees are equal is this one
pub is_test : (r : Bool) (s t : Tree) → IsTrue r ↔ (s ≡ t) → r ≡ tree_eq s t
is_test true s t is = sym ((tree_decides s t).1 (is.0 refl))
is_test false s t is = differs (tree_eq s t) (λ e. let yes = is.1 ((tree_decides s t).0 e) in cc)
  where
    differs : (b : Bool) → (b ≡ true → ⊥) → false ≡ b
    differs true h = absurd (h refl)
    differs false h = refl
