-- On a plain way from a formula stand terms alone: the formula is the smallest one round what stands at its end.
use Rattle.std.proofs.Common.{◌≡◌, ◌≢◌, ℕ, suc, zero, List, [], ◌∷◌, replicate, refl, sym, ap, ◌∙◌, Some}
use Rattle.std.specs.Prelude.{IsTrue}
use Rattle.dlk_tree.specs.declared.op.Op.{Op}
use Rattle.dlk_tree.specs.declared.op.Op.TheVariants as Op'
use Rattle.dlk_tree.specs.declared.op.Sort.TheVariants.{Term, Formula}
use Rattle.dlk_tree.specs.Table.{kid_sorts}
use Rattle.dlk_tree.specs.Trees.{Tree, node, Forest, no_kids, kid, sort, sorts, root, WellMade}
use Rattle.dlk_calculus.specs.Paths.{subtree, subtree_in}
use Rattle.dlk_calculus.proofs.Innermost.{NoneBelow, none_at_end, none_further}
use Rattle.dlk_calculus.proofs.PathLaws.{subtree_later, subtree_join, subtree_before, subtree_made}
use Rattle.dlk_derive.specs.Ways.{is_arithmetic_or_comparison, IsPlainWay}

-- the kids of such an operator are terms
over_terms : (op : Op) → IsTrue (is_arithmetic_or_comparison op) → (n : ℕ) × (kid_sorts op ≡ replicate n Term)
over_terms Op'.Neg h = (1, refl)
over_terms Op'.Add h = (2, refl)
over_terms Op'.Sub h = (2, refl)
over_terms Op'.Mul h = (2, refl)
over_terms Op'.Div h = (2, refl)
over_terms Op'.Pow h = (2, refl)
over_terms Op'.Eq h = (2, refl)
over_terms Op'.Ne h = (2, refl)
over_terms Op'.Ge h = (2, refl)
over_terms Op'.Gt h = (2, refl)
over_terms Op'.Le h = (2, refl)
over_terms Op'.Lt h = (2, refl)
over_terms _ h = absurd (cc h)

kid_is_term : (n : ℕ) (kids : Forest) (k : ℕ) (d : Tree) → sorts kids ≡ replicate n Term → subtree_in kids k [] ≡ Some d → sort d ≡ Term
kid_is_term n no_kids k d are h = absurd (cc h)
kid_is_term zero (kid t rest) k d are h = absurd (cc are)
kid_is_term (suc n) (kid t rest) zero d are h = let first : sort t ≡ Term = cc in let same : t ≡ d = cc in ap sort (sym same) ∙ first
kid_is_term (suc n) (kid t rest) (suc k) d are h =
    let others : sorts rest ≡ replicate n Term = cc in kid_is_term n rest k d others (sym (subtree_later t rest k []) ∙ h)

first_is_term : (e d : Tree) (k : ℕ) → WellMade e → IsTrue (is_arithmetic_or_comparison (root e)) → subtree e (k ∷ []) ≡ Some d → sort d ≡ Term
first_is_term (node op kids) d k made plain h = let n = over_terms op plain in kid_is_term n.0 kids k d (made.0.kids_fit ∙ n.1) h

no_formula : (d : Tree) → sort d ≡ Term → sort d ≢ Formula
no_formula d e f = cc

pub none_below : (path : List ℕ) (e s : Tree) → WellMade e → subtree e path ≡ Some s → IsPlainWay e path → NoneBelow e path
none_below [] e s made h plain = none_at_end e
none_below (k ∷ path) e s made h plain =
    let first = subtree_before e (k ∷ []) path s h in
    let d = first.0 in
    let here : IsTrue (is_arithmetic_or_comparison (root e)) = plain [] path k e refl (whole e) in
    none_further e d k path first.1 (no_formula d (first_is_term e d k made here first.1))
    (none_below path d s (subtree_made e (k ∷ []) d made first.1) (sym (subtree_join e (k ∷ []) path d first.1) ∙ h)
    (λ front back n t parts found. plain (k ∷ front) back n t (ap (λ l. k ∷ l) parts) (subtree_join e (k ∷ []) front d first.1 ∙ found)))
  where
    whole : (e : Tree) → subtree e [] ≡ Some e
    whole (node op kids) = refl
