-- The replacement that is found, by ids and by trees.
use Rattle.std.proofs.Common.{◌≡◌, refl, subst, suc, List, [], ◌∷◌, Bool, true, false, cond, Option, Some, None, arith}
use Rattle.std.proofs.lemmas.Option.{same_Some, none-some}
use Rattle.dlk_tree.specs.declared.op.Sym.{Sym}
use Rattle.dlk_tree.specs.Tests.{sym_eq}
use Rattle.dlk_tree.specs.Trees.{Tree}
use Rattle.dlk_store.specs.declared.Id.{Id}
use Rattle.dlk_store.specs.Stores.{IsId, tree}
use Rattle.dlk_calculus.specs.Pairs.{replacement}
use Rattle.dlk_sequent.specs.declared.subst.Pair.{Pair}
use Rattle.dlk_sequent.specs.Substitutions.{pairs_at, AreKnownPairs}
use Rattle.dlk_subst.specs.Effects.{found}

abbrev pub tree_of : List Tree → Option Id → Option Tree
tree_of trees (Some id) = Some (tree trees id)
tree_of trees None = None

pub found_tree : (trees : List Tree) (pairs : List Pair) (s : Sym) → replacement (pairs_at trees pairs) s ≡ tree_of trees (found pairs s)
found_tree trees [] s = refl
found_tree trees (p ∷ pairs) s = at (sym_eq s p.sym) (found_tree trees pairs s)
  where
    at : (b : Bool) → replacement (pairs_at trees pairs) s ≡ tree_of trees (found pairs s) →
        cond b (Some (tree trees p.by)) (replacement (pairs_at trees pairs) s) ≡ tree_of trees (cond b (Some p.by) (found pairs s))
    at true e = refl
    at false e = e

pub found_known : (trees : List Tree) (pairs : List Pair) (s : Sym) (id : Id) → AreKnownPairs trees pairs → found pairs s ≡ Some id → IsId trees id
found_known trees [] s id all e = absurd (none-some id e)
found_known trees (p ∷ pairs) s id all e = at (λ h. found_known trees pairs s id (λ i d l. all (suc i) d (omega arith)) h) (sym_eq s p.sym) e
  where
    at : (found pairs s ≡ Some id → IsId trees id) → (b : Bool) → cond b (Some p.by) (found pairs s) ≡ Some id → IsId trees id
    at rest true e = subst (IsId trees) (same_Some p.by id e) (all 0 p (omega arith))
    at rest false e = rest e
