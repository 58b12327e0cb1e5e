-- Pairs that are safe, one by one, are admissible.
use Rattle.std.proofs.Common.{List, [], ◌∷◌, Bool, ◌&&◌, map}
use Rattle.std.specs.Prelude.{All, IsTrue}
use Rattle.std.proofs.lemmas.List.Elements.{All-nil, All-cons, All-head, All-tail, All-map}
use Rattle.dlk_tree.specs.declared.op.Var.{Var}
use Rattle.dlk_tree.specs.Table.{kind_row}
use Rattle.dlk_tree.specs.Trees.{Tree, Forest}
use Rattle.dlk_tree.specs.Statics.{free}
use Rattle.dlk_tree.specs.Occurs.{any_has, has_symbol}
use Rattle.dlk_store.specs.Stores.{tree}
use Rattle.dlk_calculus.specs.Captures.{AreApart}
use Rattle.dlk_calculus.specs.Pairs.{Pair as TreePair}
use Rattle.dlk_calculus.specs.Subst.{IsAdmissible}
use Rattle.dlk_sequent.specs.declared.subst.Pair.{Pair}
use Rattle.dlk_sequent.specs.Substitutions.{pair_at, pairs_at}

All-unmap : {X Y : Type 0} (P : X → Type 0) (f : Y → X) (ys : List Y) → All P (map f ys) → All (λ y. P (f y)) ys
All-unmap P f [] all = All-nil (λ y. P (f y))
All-unmap P f (y ∷ ys) all = All-cons (λ y. P (f y)) y ys (All-head P (f y) (map f ys) all) (All-unmap P f ys (All-tail P (f y) (map f ys) all))

module _ (trees : List Tree) (set : Var → Bool) (kids : Forest) where
  abbrev pub IsSafe : Pair → Type 0
  IsSafe p = IsTrue ((kind_row p.sym.kind).arguments && any_has (has_symbol p.sym) kids) → AreApart set (free (tree trees p.by))

  abbrev IsSafeTree : TreePair → Type 0
  IsSafeTree p = IsTrue ((kind_row p.sym.kind).arguments && any_has (has_symbol p.sym) kids) → AreApart set (free p.by)

  pub all_safe : (pairs : List Pair) → All IsSafe pairs → IsAdmissible (pairs_at trees pairs) set kids
  all_safe pairs all = All-map IsSafeTree (pair_at trees) pairs all

  pub safe_all : (pairs : List Pair) → IsAdmissible (pairs_at trees pairs) set kids → All IsSafe pairs
  safe_all pairs all = All-unmap IsSafeTree (pair_at trees) pairs all
