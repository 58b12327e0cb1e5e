-- Replacements by ids and by trees.
use Rattle.std.proofs.Common.{◌≡◌, refl, sym, ap, subst, ◌∙◌, suc, List, [], ◌∷◌, ◌++◌, Bool, true, false, cond, Option, Some, None, arith}
use Rattle.std.specs.Prelude.{◌↔◌, IsTrue}
use Rattle.std.proofs.lemmas.Option.{same_Some, none-some}
use Rattle.dlk_tree.specs.declared.op.Op.{Op}
use Rattle.dlk_tree.specs.declared.op.Sort.{Sort}
use Rattle.dlk_tree.specs.declared.op.Sym.{Sym}
use Rattle.dlk_tree.specs.Table.{sort_of, kind_row}
use Rattle.dlk_tree.specs.Tests.{sym_eq}
use Rattle.dlk_tree.specs.Trees.{Tree, node, Forest, sort}
use Rattle.dlk_store.specs.declared.Id.{Id}
use Rattle.dlk_store.specs.Stores.{IsId, tree}
use Rattle.dlk_calculus.specs.Pairs.{Extra, replacement}
use Rattle.dlk_sequent.specs.declared.subst.Pair.{Pair}
use Rattle.dlk_sequent.specs.Substitutions.{pairs_at, AreKnownPairs}
use Rattle.dlk_match.specs.Matching.{ReplacementIs, GetsReplacement}
use Rattle.dlk_match.specs.Tried.{Tried, id_for}
use Rattle.dlk_match.proofs.Heads.{not_true}

abbrev pub tree_of : List Tree → Option Id → Option Tree
tree_of trees (Some id) = Some (tree trees id)
tree_of trees None = None

pub id_tree : (trees : List Tree) (pairs : List Pair) (s : Sym) → replacement (pairs_at trees pairs) s ≡ tree_of trees (id_for pairs s)
id_tree trees [] s = refl
id_tree trees (p ∷ pairs) s = at (sym_eq s p.sym) (id_tree trees pairs s)
  where
    at : (b : Bool) → replacement (pairs_at trees pairs) s ≡ tree_of trees (id_for pairs s) →
        cond b (Some (tree trees p.by)) (replacement (pairs_at trees pairs) s) ≡ tree_of trees (cond b (Some p.by) (id_for pairs s))
    at true e = refl
    at false e = e

pub id_known : (trees : List Tree) (pairs : List Pair) (s : Sym) (id : Id) → AreKnownPairs trees pairs → id_for pairs s ≡ Some id → IsId trees id
id_known trees [] s id all e = absurd (none-some id e)
id_known trees (p ∷ pairs) s id all e = at (λ h. id_known trees pairs s id (λ i d l. all (suc i) d (omega arith)) h) (sym_eq s p.sym) e
  where
    at : (id_for pairs s ≡ Some id → IsId trees id) → (b : Bool) → cond b (Some p.by) (id_for pairs s) ≡ Some id → IsId trees id
    at rest true e = subst (IsId trees) (same_Some p.by id e) (all 0 p (omega arith))
    at rest false e = rest e

-- the sort of the tree of a node that was looked at
pub sorted : (t : Tree) (op : Op) (kids : Forest) (a b s : Sort) → t ≡ node op kids → a ≡ sort_of op → b ≡ s → a ≡ b → sort t ≡ s
sorted t op kids a b s is p q same = ap sort is ∙ sym p ∙ same ∙ q

-- a replacement of before
module _ (s : Sym) (e : Tree) (old : Extra) where
  replaced_by : (o : Option Tree) (r : Tree) (new : Extra) → o ≡ Some r → ReplacementIs o s e old new → r ≡ e
  replaced_by (Some z) r new is p = sym (same_Some z r is) ∙ p.0
  replaced_by None r new is p = absurd (none-some r is)

  replaced_before : (o : Option Tree) (r : Tree) → o ≡ Some r → r ≡ e → ReplacementIs o s e old old
  replaced_before (Some z) r is same = (same_Some z r is ∙ same, refl)
  replaced_before None r is same = absurd (none-some r is)

  pub before : (r : Tree) → replacement old.pairs s ≡ Some r → sort e ≡ (kind_row s.kind).sort → (is : Bool) → IsTrue is ↔ (r ≡ e)
      → Tried (GetsReplacement s e) old old is
  before r found of_sort true same = (of_sort, replaced_before (replacement old.pairs s) r found (same.0 refl))
  before r found of_sort false same = λ other p. not_true (same.1 (replaced_by (replacement old.pairs s) r other found p.1))

  replaced_last : (o : Option Tree) (new : Extra) → o ≡ None → new ≡ record { renames = old.renames; pairs = old.pairs ++ record { sym = s; by = e } ∷ [] } →
      ReplacementIs o s e old new
  replaced_last (Some z) new is last = absurd (none-some z (sym is))
  replaced_last None new is last = last

  pub behind : (new : Extra) → replacement old.pairs s ≡ None → sort e ≡ (kind_row s.kind).sort
      → new ≡ record { renames = old.renames; pairs = old.pairs ++ record { sym = s; by = e } ∷ [] } → GetsReplacement s e old new
  behind new none of_sort last = (of_sort, replaced_last (replacement old.pairs s) new none last)

-- the pairs with one behind them
pub pairs_pushed : (trees : List Tree) (pairs new : List Pair) (f s : Sym) (id : Id) → new ≡ pairs ++ record { sym = f; by = id } ∷ [] → f ≡ s
    → pairs_at trees new ≡ pairs_at trees pairs ++ record { sym = s; by = tree trees id } ∷ []
pairs_pushed trees [] new f s id is same = ap (pairs_at trees) is ∙ λ i. record { sym = same i; by = tree trees id } ∷ []
pairs_pushed trees (p ∷ pairs) new f s id is same =
    ap (pairs_at trees) is ∙ ap (λ rest. record { sym = p.sym; by = tree trees p.by } ∷ rest) (pairs_pushed trees pairs _ f s id refl same)
