-- In a term a predicate has nothing to replace.
use Rattle.std.proofs.Common.{◌≡◌, ℕ, suc, zero, List, [], ◌∷◌, replicate, refl, ap, ◌∙◌, false}
use Rattle.std.specs.Prelude.{IsTrue}
use Rattle.dlk_tree.specs.declared.op.Kind.{Kind}
use Rattle.dlk_tree.specs.declared.op.Kind.TheVariants.{Func, UnitFunc, Pred, UnitPred, Quant, Prog, Ode}
use Rattle.dlk_tree.specs.declared.op.Sort.TheVariants.{Term}
use Rattle.dlk_tree.specs.declared.op.Sym.{Sym}
use Rattle.dlk_tree.specs.declared.op.Op.{Op}
use Rattle.dlk_tree.specs.declared.op.Op.TheVariants as Op'
use Rattle.dlk_tree.specs.Table.{is_sym_of, sort_of, kid_sorts, has_parts}
use Rattle.dlk_tree.specs.Tests.{sym_eq}
use Rattle.dlk_tree.specs.Trees.{Tree, node, Forest, no_kids, kid, sort, sorts, WellMade, AllWellMade}
use Rattle.dlk_calculus.specs.Pairs.{Pair, replacement}
use Rattle.dlk_calculus.specs.Subst.{Subst, SubstAll, SubstAt, Replaced}
use Rattle.dlk_uses.specs.Uses.{◌~>◌, p_of_one}
use Rattle.dlk_uses.proofs.Substituted.{parts}

abbrev named : Kind → Sym → Sym
named k s = record { kind = k; name = s.name; arity = s.arity; taboo = s.taboo }

-- a symbol of another kind isn't p(._0), on either side
pub unlike_function : (k : Kind) (s : Sym) → IsTrue (is_sym_of Func (named k s)) → (sym_eq (named k s) p_of_one ≡ false) × (sym_eq p_of_one (named k s) ≡ false)
unlike_function Func s h = (refl, refl)
unlike_function UnitFunc s h = (refl, refl)
unlike_function Pred s h = absurd (cc h)
unlike_function UnitPred s h = (refl, refl)
unlike_function Quant s h = (refl, refl)
unlike_function Prog s h = (refl, refl)
unlike_function Ode s h = (refl, refl)

pub unlike_unit : (k : Kind) (s : Sym) → IsTrue (is_sym_of UnitFunc (named k s)) → (sym_eq (named k s) p_of_one ≡ false) × (sym_eq p_of_one (named k s) ≡ false)
unlike_unit Func s h = (refl, refl)
unlike_unit UnitFunc s h = (refl, refl)
unlike_unit Pred s h = absurd (cc h)
unlike_unit UnitPred s h = (refl, refl)
unlike_unit Quant s h = (refl, refl)
unlike_unit Prog s h = (refl, refl)
unlike_unit Ode s h = (refl, refl)

module _ (d : Tree) where
  abbrev pairs : List Pair
  pairs = (p_of_one ~> d) ∷ []

  stays : (s : Sym) (With : Tree → Type 0) (Without : Type 0) → sym_eq s p_of_one ≡ false → Replaced (replacement pairs s) With Without → Without
  stays s With Without e h = rw e at h

  stays_at : (op : Op) (old new : Forest) (t : Tree) → sort_of op ≡ Term → IsTrue (has_parts op) → SubstAt pairs op old new t → t ≡ node op new
  stays_at (Op'.Variable v) old new t e h at = at.1
  stays_at (Op'.Number n) old new t e h at = at.1
  stays_at (Op'.Dot n) old new t e h at = at.1
  stays_at (Op'.UnitFun s) old new t e h at = (stays s (λ r. t ≡ r) _ (unlike_unit s.kind s h).0 at).1
  stays_at (Op'.Apply s) old new t e h at = (stays s _ _ (unlike_function s.kind s h).0 at).1
  stays_at Op'.Neg old new t e h at = at.1
  stays_at Op'.Diff old new t e h at = at.1
  stays_at Op'.Add old new t e h at = at.1
  stays_at Op'.Sub old new t e h at = at.1
  stays_at Op'.Mul old new t e h at = at.1
  stays_at Op'.Div old new t e h at = at.1
  stays_at Op'.Pow old new t e h at = at.1
  stays_at _ old new t e h at = absurd (cc e)

-- the kids of a term are terms
abbrev pub AreTerms : Forest → Type 0
AreTerms no_kids = Unit {0}
AreTerms (kid t rest) = (sort t ≡ Term) × AreTerms rest

pub are_terms : (n : ℕ) (kids : Forest) → sorts kids ≡ replicate n Term → AreTerms kids
are_terms n no_kids e = tt
are_terms zero (kid t rest) e = absurd (cc e)
are_terms (suc n) (kid t rest) e = let one : sort t ≡ Term = cc in let others : sorts rest ≡ replicate n Term = cc in (one, are_terms n rest others)

pub of_terms : (op : Op) → sort_of op ≡ Term → (n : ℕ) × (kid_sorts op ≡ replicate n Term)
of_terms (Op'.Variable v) e = (0, refl)
of_terms (Op'.Number n) e = (0, refl)
of_terms (Op'.Dot n) e = (0, refl)
of_terms (Op'.UnitFun s) e = (0, refl)
of_terms (Op'.Apply s) e = (s.arity, refl)
of_terms Op'.Neg e = (1, refl)
of_terms Op'.Diff e = (1, refl)
of_terms Op'.Add e = (2, refl)
of_terms Op'.Sub e = (2, refl)
of_terms Op'.Mul e = (2, refl)
of_terms Op'.Div e = (2, refl)
of_terms Op'.Pow e = (2, refl)
of_terms _ e = absurd (cc e)

module _ (d : Tree) where
  mutual
    pub term_stays : (e t : Tree) → WellMade e → sort e ≡ Term → Subst ((p_of_one ~> d) ∷ []) e t → t ≡ e
    term_stays (node op kids) t made is h =
        let x = parts ((p_of_one ~> d) ∷ []) op kids t h in
        let n = of_terms op is in
        stays_at d op kids x.new t is made.0.parts_fit x.at
        ∙ ap (λ k. node op k) (terms_stay kids x.new made.1 (are_terms n.0 kids (made.0.kids_fit ∙ n.1)) x.all)

    terms_stay : (es ts : Forest) → AllWellMade es → AreTerms es → SubstAll ((p_of_one ~> d) ∷ []) es ts → ts ≡ es
    terms_stay no_kids no_kids made are h = refl
    terms_stay no_kids (kid t ts) made are h = absurd h
    terms_stay (kid e es) no_kids made are h = absurd h
    terms_stay (kid e es) (kid t ts) made are h =
        let first = term_stays e t made.0 are.0 h.0 in
        let others = terms_stay es ts made.1 are.1 h.1 in
        λ i. kid (first i) (others i)
