-- The last kid of a node.
use Rattle.std.proofs.Common.{◌≡◌, ℕ, ◌-◌, List, [], ◌∷◌, length, slice_index_or, refl, sym, subst, arith}
use Rattle.std.specs.List.{All}
use Rattle.std.proofs.lemmas.List.Elements.{All-head, All-tail}
use Rattle.dlk_tree.specs.declared.op.Op.{Op}
use Rattle.dlk_tree.specs.Trees.{Tree, node}
use Rattle.dlk_store.specs.declared.Id.{Id}
use Rattle.dlk_store.specs.Stores.{IsId, kid_trees, StandsFor}
use Rattle.dlk_calculus.specs.Kids.{last}
use Rattle.dlk_uses.specs.Uses.{right_of}
use Rattle.dlk_elab.specs.Uses.{HasKids}

last_here : (trees : List Tree) (k : Id) (ks : List Id) (d : Id) → All (IsId trees) (k ∷ ks) →
    StandsFor trees (slice_index_or (k ∷ ks) (length ks) d) (last (kid_trees trees (k ∷ ks)))
last_here trees k [] d known = record { known = All-head (IsId trees) k [] known; tree_is = refl }
last_here trees k (l ∷ ks) d known = last_here trees l ks d (All-tail (IsId trees) k (l ∷ ks) known)

pub last_kid : (trees : List Tree) (o : Op) (kids : List Id) (t : Tree) (d : Id) → t ≡ node o (kid_trees trees kids) → HasKids t → All (IsId trees) kids →
    StandsFor trees (slice_index_or kids (length kids - 1) d) (right_of t)
last_kid trees o [] t d is has known = absurd (subst HasKids is has)
last_kid trees o (k ∷ ks) t d is has known =
    let e : length ks ≡ length (k ∷ ks) - 1 = omega arith in
    subst (λ (n : ℕ). StandsFor trees (slice_index_or (k ∷ ks) n d) (right_of t)) e
    (subst (λ (x : Tree). StandsFor trees (slice_index_or (k ∷ ks) (length ks) d) (right_of x)) (sym is) (last_here trees k ks d known))
