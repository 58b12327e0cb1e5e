-- A substitution for one predicate leaves each term as it is: no predicate stands in a term.
use Rattle.std.proofs.Common.{◌≡◌, List, [], ◌∷◌, refl, ◌∙◌, false, Bool}
use Rattle.std.specs.Prelude.{IsTrue, ◌&&◌}
use Rattle.std.proofs.lemmas.List.Elements.{All-nil, All-cons}
use Rattle.dlk_tree.specs.declared.op.Sort.TheVariants.{Term}
use Rattle.dlk_tree.specs.declared.op.Sym.{Sym}
use Rattle.dlk_tree.specs.declared.op.Var.{Var}
use Rattle.dlk_tree.specs.declared.op.Op.{Op}
use Rattle.dlk_tree.specs.declared.op.Op.TheVariants as Op'
use Rattle.dlk_tree.specs.Occurs.{any_has, has, has_symbol}
use Rattle.dlk_tree.specs.Statics.{all, none, free}
use Rattle.dlk_tree.specs.Table.{sort_of, has_parts, kind_row}
use Rattle.dlk_tree.specs.Tests.{sym_eq}
use Rattle.dlk_tree.specs.Trees.{Tree, node, Forest, no_kids, kid, sort, WellMade, AllWellMade}
use Rattle.dlk_calculus.specs.Captures.{AreApart}
use Rattle.dlk_calculus.specs.Pairs.{Pair, replacement}
use Rattle.dlk_calculus.specs.Subst.{Subst, SubstAll, SubstAt, Replaced, IsAdmissible}
use Rattle.dlk_uses.specs.Uses.{p_of_one, ◌~>◌}
use Rattle.dlk_uses.proofs.Terms.{unlike_function, unlike_unit, AreTerms, are_terms, of_terms}
use Rattle.dlk_reach.proofs.Clean.{or_false}

-- p(._0)~>d
abbrev pub for_p : Tree → List Pair
for_p d = (p_of_one ~> d) ∷ []

-- no predicate in the operators of terms
lacks_at : (op : Op) → sort_of op ≡ Term → IsTrue (has_parts op) → has_symbol p_of_one op ≡ false
lacks_at (Op'.Variable v) e h = refl
lacks_at (Op'.Number n) e h = refl
lacks_at (Op'.Dot n) e h = refl
lacks_at (Op'.UnitFun s) e h = let u = (unlike_unit s.kind s h).1 in rw u refl
lacks_at (Op'.Apply s) e h = let u = (unlike_function s.kind s h).1 in rw u refl
lacks_at Op'.Neg e h = refl
lacks_at Op'.Diff e h = refl
lacks_at Op'.Add e h = refl
lacks_at Op'.Sub e h = refl
lacks_at Op'.Mul e h = refl
lacks_at Op'.Div e h = refl
lacks_at Op'.Pow e h = refl
lacks_at _ e h = absurd (cc e)

mutual
  pub lacks : (e : Tree) → WellMade e → sort e ≡ Term → has (has_symbol p_of_one) e ≡ false
  lacks (node op kids) made is =
      let n = of_terms op is in or_false (lacks_at op is made.0.parts_fit) (all_lack kids made.1 (are_terms n.0 kids (made.0.kids_fit ∙ n.1)))

  all_lack : (kids : Forest) → AllWellMade kids → AreTerms kids → any_has (has_symbol p_of_one) kids ≡ false
  all_lack no_kids made are = refl
  all_lack (kid t rest) made are = or_false (lacks t made.0 are.0) (all_lack rest made.1 are.1)

module _ (d : Tree) where
  -- the symbol doesn't occur, so nothing is asked
  admissible : (set : Var → Bool) (trees : Forest) → any_has (has_symbol p_of_one) trees ≡ false → IsAdmissible (for_p d) set trees
  admissible set trees none =
      let P = λ (p : Pair). IsTrue ((kind_row p.sym.kind).arguments && any_has (has_symbol p.sym) trees) → AreApart set (free p.by) in
      All-cons P (p_of_one ~> d) [] (λ h. absurd (cc (h, none))) (All-nil P)

  unreplaced : (s : Sym) (With : Tree → Type 0) (Without : Type 0) → sym_eq s p_of_one ≡ false → Without → Replaced (replacement (for_p d) s) With Without
  unreplaced s With Without e h = rw e h

  stays_at : (op : Op) (kids : Forest) → sort_of op ≡ Term → IsTrue (has_parts op) → any_has (has_symbol p_of_one) kids ≡ false →
      SubstAt (for_p d) op kids kids (node op kids)
  stays_at (Op'.Variable v) kids e h lack = (admissible none kids lack, refl)
  stays_at (Op'.Number n) kids e h lack = (admissible none kids lack, refl)
  stays_at (Op'.Dot n) kids e h lack = (admissible none kids lack, refl)
  stays_at (Op'.UnitFun s) kids e h lack = unreplaced s _ _ (unlike_unit s.kind s h).0 (admissible none kids lack, refl)
  stays_at (Op'.Apply s) kids e h lack = unreplaced s _ _ (unlike_function s.kind s h).0 (admissible none kids lack, refl)
  stays_at Op'.Neg kids e h lack = (admissible none kids lack, refl)
  stays_at Op'.Diff kids e h lack = (admissible all kids lack, refl)
  stays_at Op'.Add kids e h lack = (admissible none kids lack, refl)
  stays_at Op'.Sub kids e h lack = (admissible none kids lack, refl)
  stays_at Op'.Mul kids e h lack = (admissible none kids lack, refl)
  stays_at Op'.Div kids e h lack = (admissible none kids lack, refl)
  stays_at Op'.Pow kids e h lack = (admissible none kids lack, refl)
  stays_at _ kids e h lack = absurd (cc e)

  mutual
    pub term_stays : (e : Tree) → WellMade e → sort e ≡ Term → Subst (for_p d) e e
    term_stays (node op kids) made is =
        let n = of_terms op is in
        let are = are_terms n.0 kids (made.0.kids_fit ∙ n.1) in
        (kids, terms_stay kids made.1 are, stays_at op kids is made.0.parts_fit (all_lack kids made.1 are), made)

    terms_stay : (kids : Forest) → AllWellMade kids → AreTerms kids → SubstAll (for_p d) kids kids
    terms_stay no_kids made are = tt
    terms_stay (kid t rest) made are = (term_stays t made.0 are.0, terms_stay rest made.1 are.1)
